-- A put that failed leaves nothing else than a kill within it.
use Rattle.std.proofs.Common.{◌≡◌, ℕ, true, false, Some, None, List, [], ◌∷◌, ◌++◌, refl, sym, ap, ◌∙◌, subst, inl, inr, append-nil, append_assoc}
use Rattle.std.specs.Prelude.{if◌then◌else◌}
use Rattle.std.specs.Str.{bytes_eq}
use Rattle.folder.specs.Moves.{Files, Move, Write, moved, standing, with_file}
use Rattle.folder.specs.Kills.{CutOff, IsFailedWrite, KillMayLeave}
use Rattle.folder.specs.Puts.{MayBePut, Put, moves_behind, moves_of, placings, staged_after, staged_with, writing}
use Rattle.folder.specs.Prefixes.{HasPrefix, IsFailedPut}
use Rattle.folder.proofs.Kills.{each-kill, KillMayLeave-append}

-- the kills during the first moves are kills during all
KillMayLeave-front : (a : Files) (first second : List Move) (left : Files) → KillMayLeave a first left → KillMayLeave a (first ++ second) left
KillMayLeave-front a [] [] left may = may
KillMayLeave-front a [] (m ∷ second) left may = inl may
KillMayLeave-front a (m ∷ first) second left (inl same) = inl same
KillMayLeave-front a (m ∷ first) second left (inr (inl cut)) = inr (inl cut)
KillMayLeave-front a (m ∷ first) second left (inr (inr later)) = inr (inr (KillMayLeave-front (moved a m) first second left later))

-- and those behind the first
KillMayLeave-behind : (a : Files) (first second : List Move) (left : Files) → KillMayLeave (standing a first) second left → KillMayLeave a (first ++ second) left
KillMayLeave-behind a [] second left may = may
KillMayLeave-behind a (m ∷ first) second left may = inr (inr (KillMayLeave-behind (moved a m) first second left may))

pub written-removed : (a : Files) (name front other : List ℕ) → with_file (with_file a name (Some front)) name None other ≡ with_file a name None other
written-removed a name front other =
    elim (bytes_eq name other) as (λ t. (if t then None else (if t then Some front else a other)) ≡ (if t then None else a other)) [ true ↦ refl | false ↦ refl ]

-- a write of a prefix that is cut off is one of all that is cut off
cut-prefix : (a : Files) (name bytes front rest : List ℕ) (left : Files) → bytes ≡ front ++ rest → CutOff a (Write name front) left → CutOff a (Write name bytes) left
cut-prefix a name bytes front rest left whole (inl (first, second, is, same)) =
    inl (first, second ++ rest, whole ∙ ap (λ (l : List ℕ). l ++ rest) is ∙ append_assoc first second rest, same)
cut-prefix a name bytes front rest left whole (inr none) = inr none

-- what a write that failed may leave, a write that is cut off may
touch_cut : (a : Files) (name bytes : List ℕ) (more placed : List Move) (left : Files) → IsFailedWrite name bytes more → KillMayLeave a more left → KillMayLeave a (Write name bytes ∷ placed) left
touch_cut a name bytes more placed left (inl none) may = inl (subst (λ (l : List Move). KillMayLeave a l left) none may)
touch_cut a name bytes more placed left (inr (inl gone)) may =
    elim (subst (λ (l : List Move). KillMayLeave a l left) gone may) [ inl same ↦ inl same | inr later ↦ elim later [ inl cut ↦ absurd cut | inr same ↦ inr (inl (inr same)) ] ]
touch_cut a name bytes more placed left (inr (inr (front, rest, whole, inl wrote))) may =
    elim (subst (λ (l : List Move). KillMayLeave a l left) wrote may) [
      | inl same ↦ inl same
      | inr later ↦ elim later [ inl cut ↦ inr (inl (cut-prefix a name bytes front rest left whole cut)) | inr same ↦ inr (inl (inl (front, rest, whole, same))) ]
    ]
touch_cut a name bytes more placed left (inr (inr (front, rest, whole, inr wrote))) may =
    elim (subst (λ (l : List Move). KillMayLeave a l left) wrote may) [
      | inl same ↦ inl same
      | inr later ↦ elim later [
        | inl cut ↦ inr (inl (cut-prefix a name bytes front rest left whole cut))
        | inr behind ↦ elim behind [
          | inl same ↦ inr (inl (inl (front, rest, whole, same)))
          | inr last ↦ elim last [ inl cut ↦ absurd cut | inr same ↦ inr (inl (inr (λ other. same other ∙ written-removed a name front other))) ]
        ]
      ]
    ]

stopped_cut : (a : Files) (placed : List Move) (p : Put) (more : List Move) (left : Files) → IsFailedPut placed p more → KillMayLeave a more left → KillMayLeave a (writing p ∷ placed) left
stopped_cut a placed p more left (inl touch) may = touch_cut a p.part p.bytes more placed left touch may
stopped_cut a placed p more left (inr (front, rest, whole, did)) may =
    let began : KillMayLeave a (writing p ∷ front) left = subst (λ (l : List Move). KillMayLeave a l left) did may in
    let all : KillMayLeave a ((writing p ∷ front) ++ rest) left = KillMayLeave-front a (writing p ∷ front) rest left began in
    subst (λ (l : List Move). KillMayLeave a (writing p ∷ l) left) (sym whole) all

pub moves_behind-append : (staged puts more : List Put) → moves_behind staged (puts ++ more) ≡ moves_behind staged puts ++ moves_behind (staged_after staged puts) more
moves_behind-append staged [] more = refl
moves_behind-append staged (p ∷ puts) more =
    let next = staged_with p.ends staged p in
    let block = placings p.ends staged p in
    ap (λ (l : List Move). writing p ∷ (block ++ l)) (moves_behind-append next puts more)
    ∙ ap (λ (l : List Move). writing p ∷ l) (sym (append_assoc block (moves_behind next puts) (moves_behind (staged_after next puts) more)))

pub each-stop : (files : Files) (puts : List Put) (next : Put) (more : List Move) → MayBePut [] (puts ++ next ∷ []) →
    IsFailedPut (placings next.ends (staged_after [] puts) next) next more → (left : Files) → KillMayLeave files (moves_of puts ++ more) left →
    HasPrefix files (puts ++ next ∷ []) left
each-stop files puts next more fit stopped left may =
    let waiting = staged_after [] puts in
    let placed = placings next.ends waiting next in
    let whole : moves_of (puts ++ next ∷ []) ≡ moves_of puts ++ writing next ∷ placed =
    moves_behind-append [] puts (next ∷ []) ∙ ap (λ (l : List Move). moves_of puts ++ writing next ∷ l) (append-nil placed) in
    let all : KillMayLeave files (moves_of puts ++ writing next ∷ placed) left =
    elim (KillMayLeave-append files (moves_of puts) more left may) [
      | inl before ↦ KillMayLeave-front files (moves_of puts) (writing next ∷ placed) left before
      | inr behind ↦ KillMayLeave-behind files (moves_of puts) (writing next ∷ placed) left (stopped_cut (standing files (moves_of puts)) placed next more left stopped behind)
    ] in
    each-kill files (puts ++ next ∷ []) fit left (subst (λ (l : List Move). KillMayLeave files l left) (sym whole) all)
