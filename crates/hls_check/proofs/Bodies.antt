-- Sealed segments unpack to the bodies of their plans.
use Rattle.std.proofs.Common.{◌≡◌, ℕ, zero, suc, ◌<◌, List, [], ◌∷◌, ◌++◌, length, get_or, map, refl, sym, ap, ◌∙◌, subst, arith}
use Rattle.aes_cbc.specs.Opening.{Seals}
use Rattle.playlist_text.specs.MediaLines.{Entry}
use Rattle.playlist_text.specs.Vectors.{salted_vector}
use Rattle.segment_job.specs.Rotation.{KeyRotation, IsRotation, key_index}
use Rattle.segment_job.specs.Segments.{SealedSegment, plain, plan_head}
use Rattle.hls_check.specs.Unpacking.{packed, Unpacks, AllUnpack}
use Rattle.hls_check.specs.Listed.{Lists, ListEach}

-- the index of a key is one of theirs
index-below : (keys : KeyRotation) (n : ℕ) → IsRotation keys → key_index keys n < length keys.keys
index-below keys n sound = omega (arith, sound.some)

-- the text of an entry
text-opens : (keys : KeyRotation) (entry : Entry) (s : SealedSegment) → Lists keys entry s
    → Seals (get_or keys.keys entry.key []) (salted_vector keys.salt entry.number) (plan_head s.plan ++ s.plan.body) s.bytes
text-opens keys entry s lists =
    let key : s.key ≡ get_or keys.keys entry.key [] = ap (λ (x : SealedSegment). x.key) lists.by_keys ∙ ap (λ i. get_or keys.keys i []) (sym lists.key) in
    let number : s.vector ≡ salted_vector keys.salt entry.number =
    ap (λ (x : SealedSegment). x.vector) lists.by_keys ∙ ap (salted_vector keys.salt) (sym lists.number) in
    let text : Seals s.key s.vector (plan_head s.plan ++ s.plan.body) s.bytes = lists.is_sealed.opens.text in
    subst (λ v. Seals (get_or keys.keys entry.key []) v (plan_head s.plan ++ s.plan.body) s.bytes) number
    (subst (λ k. Seals k s.vector (plan_head s.plan ++ s.plan.body) s.bytes) key text)

-- the segments and the bodies
abbrev bytes_of : List SealedSegment → List (List ℕ)
bytes_of sealed = map (λ s. s.bytes) sealed

abbrev bodies_of : List SealedSegment → List (List ℕ)
bodies_of sealed = map (λ s. s.plan.body) sealed

-- as many bodies as entries
as-many : (keys : KeyRotation) (entries : List Entry) (sealed : List SealedSegment) → ListEach keys entries sealed → length (bodies_of sealed) ≡ length entries
as-many keys [] [] each = refl
as-many keys (entry ∷ entries) (s ∷ sealed) each = ap suc (as-many keys entries sealed each.1)
as-many keys [] (s ∷ sealed) each = absurd each
as-many keys (entry ∷ entries) [] each = absurd each

-- each entry unpacks to its body
each-unpacks : (keys : KeyRotation) (entries : List Entry) (sealed : List SealedSegment) → IsRotation keys → ListEach keys entries sealed
    → (i : ℕ) → i < length (bodies_of sealed) → Unpacks (packed keys.salt entries (bytes_of sealed) keys.keys) i (get_or (bodies_of sealed) i [])
each-unpacks keys [] [] sound each i lt = absurd (omega (arith, lt))
each-unpacks keys [] (s ∷ sealed) sound each i lt = absurd each
each-unpacks keys (entry ∷ entries) [] sound each i lt = absurd each
each-unpacks keys (entry ∷ entries) (s ∷ sealed) sound each zero lt = record {
  there = record {
    segment = omega arith;
    key = omega (arith, each.0.key, index-below keys s.plan.number sound);
  };
  text = plain s.plan;
  opens = text-opens keys entry s each.0;
  begins = record {
    tables = s.plan.tables;
    pat_counter = s.plan.pat_counter;
    pmt_counter = s.plan.pmt_counter;
    sendable = each.0.is_sealed.opens.tables;
    whole = refl;
  };
}
each-unpacks keys (entry ∷ entries) (s ∷ sealed) sound each (suc i) lt =
    let later = each-unpacks keys entries sealed sound each.1 i (omega (arith, lt)) in
    record {
      there = record { segment = omega (arith, later.there.segment); key = later.there.key };
      text = later.text;
      opens = later.opens;
      begins = later.begins;
    }

pub bodies-unpack : (keys : KeyRotation) (entries : List Entry) (sealed : List SealedSegment) → IsRotation keys → ListEach keys entries sealed
    → AllUnpack (packed keys.salt entries (map (λ s. s.bytes) sealed) keys.keys) (map (λ s. s.plan.body) sealed)
bodies-unpack keys entries sealed sound each =
    record { each_one = as-many keys entries sealed each; unpacks = each-unpacks keys entries sealed sound each }
