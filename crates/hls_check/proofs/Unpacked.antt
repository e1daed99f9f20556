-- What all entries unpack to.
use Rattle.std.proofs.Common.{◌≡◌, ℕ, ◌<◌, List, [], ◌++◌, length, get_or, refl, sym, ◌∙◌, subst, arith, inl, inr}
use Rattle.std.proofs.lemmas.List.{ext_get_or}
use Rattle.psi_tables.specs.InForce.{InForce}
use Rattle.psi_tables.specs.Head.{head, IsSendable, IsSameHead}
use Rattle.hls_check.specs.declared.fault.UnpackFault.{UnpackFault}
use Rattle.hls_check.specs.declared.fault.UnpackFault.TheVariants.{Missing, Closed, NoHead, NoMemory}
use Rattle.hls_check.specs.Unpacking.{Packed, BeginsWithHead, IsThere, IsFirstWithout, OfAll, AllUnpack, IsTold}
use Rattle.hls_check.specs.Texts.{AreTexts, IsNoText, AreRests, IsNoRest, IsNotCounted}

-- texts and what stands behind their heads are what the entries unpack to
pub all-unpack : (p : Packed) (texts rests : List (List ℕ)) → OfAll p (IsThere p) → AreTexts p texts → AreRests texts rests → AllUnpack p rests
all-unpack p texts rests there opened behind = record {
  each_one = behind.each_one ∙ opened.each_one;
  unpacks = λ i lt. record {
    there = there i (omega (arith, lt, behind.each_one, opened.each_one));
    text = get_or texts i [];
    opens = (opened.opens i (omega (arith, lt, behind.each_one))).seals;
    begins = behind.begins i lt;
  };
}

-- the text of an entry begins with the head of what it unpacks to
begins-other : (p : Packed) (texts others : List (List ℕ)) → AreTexts p texts → AllUnpack p others → (i : ℕ) → i < length p.entries
    → BeginsWithHead (get_or texts i []) (get_or others i [])
begins-other p texts others opened all i lt =
    let unpacked = all.unpacks i (omega (arith, lt, all.each_one)) in
    let same = (opened.opens i (omega (arith, lt, opened.each_one))).only unpacked.text unpacked.opens in
    subst (λ text. BeginsWithHead text (get_or others i [])) (sym same) unpacked.begins

-- that one head begins bytes
abbrev pub OneHead : Type 0
OneHead = (t u : InForce) (a b c d : ℕ) (rest other : List ℕ) → IsSendable t → IsSendable u → head t a b ++ rest ≡ head u c d ++ other → IsSameHead t u a b c d rest other

-- so all entries unpack to the same
pub unpacks-same : OneHead → (p : Packed) (texts rests others : List (List ℕ)) → AreTexts p texts → AreRests texts rests → AllUnpack p others → rests ≡ others
unpacks-same one p texts rests others opened behind all =
    ext_get_or [] rests others (behind.each_one ∙ opened.each_one ∙ sym all.each_one) (λ i lt.
    let here = behind.begins i lt in
    let there = begins-other p texts others opened all i (omega (arith, lt, behind.each_one, opened.each_one)) in
    (one here.tables there.tables here.pat_counter here.pmt_counter there.pat_counter there.pmt_counter (get_or rests i []) (get_or others i []) here.sendable there.sendable (sym here.whole ∙ there.whole)).behind)

-- where all entries unpack, none is missing
pub unpacks-there : (p : Packed) (others : List (List ℕ)) (i : ℕ) → AllUnpack p others → ¬ IsFirstWithout p (IsThere p) i
unpacks-there p others i all first = first.without ((all.unpacks i (omega (arith, first.entry, all.each_one))).there)

-- and each has a text
pub unpacks-open : (p : Packed) (others : List (List ℕ)) (fault : UnpackFault) → AllUnpack p others → IsNoText p fault → fault ≡ NoMemory
unpacks-open p others (Missing i) all told = absurd told
unpacks-open p others (Closed i) all told =
    let unpacked = all.unpacks i (omega (arith, told.entry, all.each_one)) in
    absurd (told.without (unpacked.text, unpacked.opens))
unpacks-open p others (NoHead i) all told = absurd told
unpacks-open p others NoMemory all told = refl

-- and each text has a head
pub unpacks-begins : (p : Packed) (texts others : List (List ℕ)) (fault : UnpackFault) → AreTexts p texts → AllUnpack p others → IsNoRest texts fault → fault ≡ NoMemory
unpacks-begins p texts others (Missing i) opened all told = absurd told
unpacks-begins p texts others (Closed i) opened all told = absurd told
unpacks-begins p texts others (NoHead i) opened all told =
    absurd (told.without (get_or others i []) (begins-other p texts others opened all i (omega (arith, told.text, opened.each_one))))
unpacks-begins p texts others NoMemory opened all told = refl

-- what is told where a segment doesn't open
pub no-text-told : (p : Packed) (fault : UnpackFault) → OfAll p (IsThere p) → IsNoText p fault → IsTold p fault
no-text-told p (Missing i) there told = absurd told
no-text-told p (Closed i) there told = (there, told)
no-text-told p (NoHead i) there told = absurd told
no-text-told p NoMemory there told = (there, told)

-- what is told where a text has no head
pub no-rest-told : (p : Packed) (texts : List (List ℕ)) (fault : UnpackFault) → OfAll p (IsThere p) → AreTexts p texts → IsNoRest texts fault → IsTold p fault
no-rest-told p texts (Missing i) there opened told = absurd told
no-rest-told p texts (Closed i) there opened told = absurd told
no-rest-told p texts (NoHead i) there opened told = (
  there,
  λ j lt. (get_or texts j [], (opened.opens j (omega (arith, lt, opened.each_one))).seals),
  record {
    entry = omega (arith, told.text, opened.each_one);
    without = λ has.
        let unpacked = has.1 in
        let same = (opened.opens i told.text).only unpacked.text unpacked.opens in
        told.without has.0 (subst (λ text. BeginsWithHead text has.0) (sym same) unpacked.begins);
    before = λ j lt.
        let behind = told.before j lt in (
          behind.0,
          record {
            there = there j (omega (arith, lt, told.text, opened.each_one));
            text = get_or texts j [];
            opens = (opened.opens j (omega (arith, lt, told.text))).seals;
            begins = behind.1;
          },
        );
  },
)
no-rest-told p texts NoMemory there opened told = (
  there,
  record {
    place = told.place;
    entry = omega (arith, told.text, opened.each_one);
    opens = (get_or texts told.place [], (opened.opens told.place told.text).seals);
    before = λ j lt. (get_or texts j [], (opened.opens j (omega (arith, lt, told.text))).seals);
  },
)

-- what is told where bytes weren't counted
pub not-counted-told : (p : Packed) (fault : UnpackFault) → OfAll p (IsThere p) → IsNotCounted p fault → IsTold p fault
not-counted-told p fault there (inl told) = no-text-told p fault there told
not-counted-told p fault there (inr (texts, opened, told)) = no-rest-told p texts fault there opened told

-- where all entries unpack, only memory can be wanting
pub unpacks-counted : (p : Packed) (others : List (List ℕ)) (fault : UnpackFault) → AllUnpack p others → IsNotCounted p fault → fault ≡ NoMemory
unpacks-counted p others fault all (inl told) = unpacks-open p others fault all told
unpacks-counted p others fault all (inr (texts, opened, told)) = unpacks-begins p texts others fault opened all told
