use Rattle.std.proofs.Common.{◌≡◌, ◌≢◌, ◌∙◌, ◌==◌, List, ℕ, All, Err, length, drop, min, sym, ap, subst, rules}
use Rattle.std.specs.List.{before_first}
use Rattle.std.specs.Str.{IsUtf8}
use Rattle.std.proofs.lemmas.List.{drop_min}
use Rattle.percent_encoding.specs.Percent.{percent_decode, percent_sign}
use Rattle.media_reading.specs.State.{escaped_in}
use Rattle.playlist_text.specs.Names.{is_name}
use Rattle.media_reading.proofs.NamesIn.{told_name, no-name, no-text, a-name}
use Rattle.media_reading.proofs.reading.read_name.Goals as goal

-- what was decoded
decoded : (line uri part bytes : List ℕ) (n : ℕ) → n ≡ min 31 (length line) → uri ≡ drop n line → part ≡ before_first (λ b. b == 46) uri → bytes ≡ percent_decode part → bytes ≡ told_name line
decoded line uri part bytes n least behind before is =
    is ∙ ap (λ x. percent_decode x) before
    ∙ ap (λ x. percent_decode (before_first (λ b. b == 46) x)) (behind ∙ ap (λ k. drop k line) least ∙ drop_min 31 line)

pub returns-in-Err-Utf8-clause-ok : goal.returns-in-Err-Utf8-clause-ok
returns-in-Err-Utf8-clause-ok c =
    let told = decoded c.args.line.now c.split_at.result.1.now c.before_point.result.now _ c.min.result c.min.ensures c.split_at.ensures.back c.before_point.ensures c.percent_decode.ensures.bytes in
    no-text c.args.line.now (λ text. search (rules, c.in-Err-Utf8.ensures.utf8 (subst IsUtf8 (sym told) text)))

pub returns-then-not-is_name-clause-ok : goal.returns-then-not-is_name-clause-ok
returns-then-not-is_name-clause-ok c =
    let told = decoded c.args.line.now c.split_at.result.1.now c.before_point.result.now _ c.min.result c.min.ensures c.split_at.ensures.back c.before_point.ensures c.percent_decode.ensures.bytes in
    no-name c.args.line.now _ (c.in-Ok.ensures.value ∙ told) (ap is_name (sym c.deref.ensures.value) ∙ sym c.is_name.ensures ∙ c.if-not-is_name.true)

pub returns-clause-ok : goal.returns-clause-ok
returns-clause-ok c =
    let told = decoded c.args.line.now c.split_at.result.1.now c.before_point.result.now _ c.min.result c.min.ensures c.split_at.ensures.back c.before_point.ensures c.percent_decode.ensures.bytes in
    let name = c.in-Ok.ensures.value in
    a-name c.args.line.now _ (name ∙ told) (ap is_name (sym c.deref.ensures.value) ∙ sym c.is_name.ensures ∙ c.if-not-is_name.false) (subst IsUtf8 (sym name) c.in-Ok.ensures.ok_only_if_utf8)

-- the text that is decoded
text-in : (line uri part : List ℕ) (n : ℕ) → n ≡ min 31 (length line) → uri ≡ drop n line → part ≡ before_first (λ b. b == 46) uri → part ≡ escaped_in line
text-in line uri part n least behind before =
    before ∙ ap (λ x. before_first (λ b. b == 46) x) (behind ∙ ap (λ k. drop k line) least ∙ drop_min 31 line)

pub returns-in-Err-OutOfMemory-clause-scarce : goal.returns-in-Err-OutOfMemory-clause-scarce
returns-in-Err-OutOfMemory-clause-scarce c =
    let text = text-in c.args.line.now c.split_at.result.1.now c.before_point.result.now c.min.result c.min.ensures c.split_at.ensures.back c.before_point.ensures in
    (λ none. c.in-Err-OutOfMemory.ensures.has_memory (subst (All (λ b. b ≢ percent_sign)) (sym (c.percent_decode.ensures.input ∙ text)) none) (ap (λ e. Err e) c.in-Err-OutOfMemory.field-0-is))
