-- What a folder outlet's puts do.
use Rattle.std.proofs.Common.{◌≡◌, ℕ, ◌+◌, ◌<◌, Bool, true, false, List, [], ◌∷◌, ◌++◌, map, refl, sym, ap, ◌∙◌, subst, inl, append-nil, append_assoc, arith, take, drop, get_or, length, zero, suc}
use Rattle.folder.specs.Moves.{Move, Sync}
use Rattle.folder.specs.Puts.{Names, Put, moves_of, placing, placings, put_names, staged_after, staged_with, writing}
use Rattle.folder.specs.PowerLoss.{synced_each, synced_moves_of, synced_placings}
use Rattle.folder.specs.Syncing.{moves_when, placings_when}
use Rattle.folder.specs.Prefixes.{IsFailedPut}
use Rattle.folder.specs.StagedFiles.{staged_file_names, staged_names}
use Rattle.folder.proofs.Kills.{staged_after-append}
use Rattle.folder.proofs.Stops.{moves_behind-append}
use Rattle.folder.proofs.Losses.{synced_moves_behind-append}
use Rattle.item_io.specs.Items.{ItemValue}
use Rattle.item_io.specs.Outlets.{BreaksOff, Grows, Held, with_items}
use Rattle.item_io.specs.FolderMoves.{HoldsFiles, HoldsFilesUpTo, IsBegun, ends_block, names_with, put_of, puts_of, renaming, renaming_each, renamings, syncing}
use Rattle.item_io.proofs.Fitting.{puts-append}
use Rattle.folder.specs.declared.staged_file.StagedFile.{StagedFile}

renamed-each : (staged : List Put) (p : Put) → renaming_each false (map put_names staged ++ put_names p ∷ []) ≡ map placing (staged ++ p ∷ [])
renamed-each [] p = refl
renamed-each (q ∷ staged) p = ap (λ (l : List Move). placing q ∷ l) (renamed-each staged p)

synced-each : (staged : List Put) (p : Put) → renaming_each true (map put_names staged ++ put_names p ∷ []) ≡ synced_each (staged ++ p ∷ [])
synced-each [] p = refl
synced-each (q ∷ staged) p = ap (λ (l : List Move). placing q ∷ Sync ∷ l) (synced-each staged p)

renamings-placings : (syncs ends : Bool) (staged : List Put) (p : Put) → renamings syncs ends (map put_names staged) (put_names p) ≡ placings_when syncs ends staged p
renamings-placings true true staged p = ap (λ (l : List Move). Sync ∷ l) (synced-each staged p)
renamings-placings true false staged p = refl
renamings-placings false true staged p = renamed-each staged p
renamings-placings false false staged p = refl

names-all : (staged : List Put) (p : Put) → map put_names staged ++ put_names p ∷ [] ≡ map put_names (staged ++ p ∷ [])
names-all [] p = refl
names-all (q ∷ staged) p = ap (λ (l : List Names). put_names q ∷ l) (names-all staged p)

names-staged : (ends : Bool) (staged : List Put) (p : Put) → names_with ends (map put_names staged) (put_names p) ≡ map put_names (staged_with ends staged p)
names-staged true staged p = refl
names-staged false staged p = names-all staged p

-- nothing was given
unchanged : (new : Held → Type 0) (held : Held) → new held → new (with_items held [])
unchanged new held h = subst (λ (items : List ItemValue). new (record { before = held.before; items = items })) (sym (append-nil held.items)) h

holds-made : (syncs : Bool) (made staged : _) (f : ℕ) (held : Held) → HoldsFiles syncs made staged f held → f ≡ 0 → made ≡ moves_when syncs (puts_of held.items)
holds-made syncs made staged f held h none =
    h.made_are ∙ ap (λ (l : List Move). moves_when syncs (puts_of held.items) ++ l) (h.none none) ∙ append-nil (moves_when syncs (puts_of held.items))

moves-append : (syncs : Bool) (puts : List Put) (p : Put) → moves_when syncs (puts ++ p ∷ []) ≡ moves_when syncs puts ++ writing p ∷ placings_when syncs p.ends (staged_after [] puts) p
moves-append true puts p =
    synced_moves_behind-append [] puts (p ∷ []) ∙ ap (λ (l : List Move). synced_moves_of puts ++ writing p ∷ l) (append-nil (synced_placings p.ends (staged_after [] puts) p))
moves-append false puts p =
    moves_behind-append [] puts (p ∷ []) ∙ ap (λ (l : List Move). moves_of puts ++ writing p ∷ l) (append-nil (placings p.ends (staged_after [] puts) p))

moves-more : (syncs : Bool) (items : List ItemValue) (item : ItemValue) → let p = put_of item in let waiting = staged_after [] (puts_of items) in
    moves_when syncs (puts_of (items ++ item ∷ [])) ≡ moves_when syncs (puts_of items) ++ writing p ∷ placings_when syncs p.ends waiting p
moves-more syncs items item = ap (moves_when syncs) (puts-append items (item ∷ [])) ∙ moves-append syncs (puts_of items) (put_of item)

staged-more : (items : List ItemValue) (item : ItemValue) → let p = put_of item in
    staged_after [] (puts_of (items ++ item ∷ [])) ≡ staged_with p.ends (staged_after [] (puts_of items)) p
staged-more items item = ap (staged_after []) (puts-append items (item ∷ [])) ∙ staged_after-append [] (puts_of items) (put_of item ∷ [])

pub files-grow : (syncs : Bool) (made made_then : List Move) (staged staged_then : List Names) (f f_then : ℕ) (item : ItemValue) → f ≡ 0 →
    made_then ≡ made ++ writing (put_of item) ∷ renamings syncs (ends_block item) staged (put_names (put_of item)) →
    staged_then ≡ names_with (ends_block item) staged (put_names (put_of item)) →
    Grows (HoldsFiles syncs made staged f) (HoldsFiles syncs made_then staged_then f_then) (item ∷ [])
files-grow syncs made made_then staged staged_then f f_then item well moves names = record {
  follows = λ held h.
      let p = put_of item in
      let waiting = staged_after [] (puts_of held.items) in
      let same : staged ≡ map put_names waiting = h.staged_are well in
      record {
        marked = h.marked;
        next = p;
        more = [];
        made_are = moves
            ∙ ap (λ (l : List Names). made ++ writing p ∷ renamings syncs p.ends l (put_names p)) same
            ∙ ap (λ (l : List Move). made ++ writing p ∷ l) (renamings-placings syncs p.ends waiting p)
            ∙ ap (λ (l : List Move). l ++ writing p ∷ placings_when syncs p.ends waiting p) (holds-made syncs made staged f held h well)
            ∙ sym (moves-more syncs held.items item)
            ∙ sym (append-nil (moves_when syncs (puts_of (held.items ++ item ∷ []))));
        stopped = inl (inl refl);
        none = λ _. refl;
        staged_are = λ _. names ∙ ap (λ (l : List Names). names_with p.ends l (put_names p)) same ∙ names-staged p.ends waiting p
            ∙ ap (map put_names) (sym (staged-more held.items item));
      };
}

pub files-stay : (syncs : Bool) (made : List Move) (staged : List Names) (f f_then : ℕ) → 0 < f → f_then ≡ f + 1 → Grows (HoldsFiles syncs made staged f) (HoldsFiles syncs made staged f_then) []
files-stay syncs made staged f f_then failed more = record {
  follows = λ held h. unchanged (HoldsFiles syncs made staged f_then) held (record {
    marked = h.marked;
    next = h.next;
    more = h.more;
    made_are = h.made_are;
    stopped = h.stopped;
    none = λ zero_then. absurd (omega (arith, failed, more, zero_then));
    staged_are = λ zero_then. absurd (omega (arith, failed, more, zero_then));
  });
}

stopped-as : (syncs : Bool) (staged : List Names) (waiting : List Put) (p : Put) (more : List Move) → staged ≡ map put_names waiting → IsFailedPut (renamings syncs p.ends staged (put_names p)) p more →
    IsFailedPut (placings_when syncs p.ends waiting p) p more
stopped-as syncs staged waiting p more same stopped =
    subst (λ (l : List Move). IsFailedPut l p more) (ap (λ (l : List Names). renamings syncs p.ends l (put_names p)) same ∙ renamings-placings syncs p.ends waiting p) stopped

pub files-stop : (syncs : Bool) (made made_then more : List Move) (staged staged_then : List Names) (f f_then : ℕ) (item : ItemValue) → f ≡ 0 → f_then ≡ f + 1 →
    made_then ≡ made ++ more → IsFailedPut (renamings syncs (ends_block item) staged (put_names (put_of item))) (put_of item) more →
    Grows (HoldsFiles syncs made staged f) (HoldsFiles syncs made_then staged_then f_then) []
files-stop syncs made made_then more staged staged_then f f_then item well then_one moves stopped = record {
  follows = λ held h. unchanged (HoldsFiles syncs made_then staged_then f_then) held (record {
    marked = h.marked;
    next = put_of item;
    more = more;
    made_are = moves ∙ ap (λ (l : List Move). l ++ more) (holds-made syncs made staged f held h well);
    stopped = stopped-as syncs staged (staged_after [] (puts_of held.items)) (put_of item) more (h.staged_are well) stopped;
    none = λ zero_then. absurd (omega (arith, then_one, zero_then));
    staged_are = λ zero_then. absurd (omega (arith, then_one, zero_then));
  });
}

pub files-break : (syncs : Bool) (made made_then more : List Move) (staged : List Names) (f : ℕ) (item : ItemValue) → f ≡ 0 →
    made_then ≡ made ++ more → IsFailedPut (renamings syncs (ends_block item) staged (put_names (put_of item))) (put_of item) more →
    BreaksOff (HoldsFiles syncs made staged f) (HoldsFilesUpTo syncs made_then) [] item
files-break syncs made made_then more staged f item well moves stopped = record {
  follows = λ held h. unchanged (λ (now : Held). HoldsFilesUpTo syncs made_then now item) held (record {
    marked = h.marked;
    more = more;
    made_are = moves ∙ ap (λ (l : List Move). l ++ more) (holds-made syncs made staged f held h well);
    stopped = stopped-as syncs staged (staged_after [] (puts_of held.items)) (put_of item) more (h.staged_are well) stopped;
  });
}

-- some of the moves were made, behind those before
pub begun-more : (made made_mid made_then before moves behind all : List Move) → made_mid ≡ made ++ before → all ≡ before ++ (moves ++ behind) →
    IsBegun made_mid made_then moves → IsBegun made made_then all
begun-more made made_mid made_then before moves behind all mid whole (front, rest, split, did) = (
  before ++ front,
  rest ++ behind,
  whole ∙ ap (λ (l : List Move). before ++ (l ++ behind)) split ∙ ap (λ (l : List Move). before ++ l) (append_assoc front rest behind) ∙ sym (append_assoc before front (rest ++ behind)),
  did ∙ ap (λ (l : List Move). l ++ front) mid ∙ append_assoc made before front,
)

-- the files before one, it, and those behind it
pub renamed-split : (syncs : Bool) (n : ℕ) (staged : List StagedFile) (f : StagedFile) → n < length staged →
    renaming_each syncs (staged_names staged)
    ≡ renaming_each syncs (staged_names (take n staged)) ++ ((renaming (staged_file_names (get_or staged n f)) ∷ syncing syncs) ++ renaming_each syncs (staged_names (drop (suc n) staged)))
renamed-split syncs n [] f within = absurd (omega (arith, within))
renamed-split syncs zero (s ∷ staged) f within = refl
renamed-split syncs (suc n) (s ∷ staged) f within =
    let behind = (renaming (staged_file_names (get_or staged n f)) ∷ syncing syncs) ++ renaming_each syncs (staged_names (drop (suc n) staged)) in
    ap (λ (l : List Move). renaming (staged_file_names s) ∷ (syncing syncs ++ l)) (renamed-split syncs n staged f (omega (arith, within)))
    ∙ ap (λ (l : List Move). renaming (staged_file_names s) ∷ l) (sym (append_assoc (syncing syncs) (renaming_each syncs (staged_names (take n staged))) behind))

pub renamed-next : (syncs : Bool) (n : ℕ) (staged : List StagedFile) (f : StagedFile) → n < length staged →
    renaming_each syncs (staged_names (take (suc n) staged)) ≡ renaming_each syncs (staged_names (take n staged)) ++ renaming (staged_file_names (get_or staged n f)) ∷ syncing syncs
renamed-next syncs n [] f within = absurd (omega (arith, within))
renamed-next syncs zero (s ∷ staged) f within = ap (λ (l : List Move). renaming (staged_file_names s) ∷ l) (append-nil (syncing syncs))
renamed-next syncs (suc n) (s ∷ staged) f within =
    ap (λ (l : List Move). renaming (staged_file_names s) ∷ (syncing syncs ++ l)) (renamed-next syncs n staged f (omega (arith, within)))
    ∙ ap (λ (l : List Move). renaming (staged_file_names s) ∷ l)
    (sym (append_assoc (syncing syncs) (renaming_each syncs (staged_names (take n staged))) (renaming (staged_file_names (get_or staged n f)) ∷ syncing syncs)))
