use Rattle.std.proofs.Common.{[], suc, map, drop, string_bytes, arith}
use Rattle.std.proofs.lemmas.List.{at_drop_all}
use Rattle.std.proofs.lemmas.Result.{err_from_is_err_and}
use Rattle.playlist_text.specs.Attributes.{attribute_list}
use Rattle.playlist_text.specs.AttributeValues.{attribute_text}
use Rattle.playlist_text.specs.declared.attribute.Attribute.{Attribute}
use Rattle.playlist_text.specs.declared.attribute.Value.TheVariants.{Decimal}
use Rattle.playlist_text.proofs.Appending.{part-none}
use Rattle.playlist_text.proofs.Joins.{separated, joined, all-long, item-long, item-then, left-then, list-front, list-then}
use Rattle.playlist_text.proofs.attribute.push_attribute_list.Goals as goal

pub returns-clause-ok : goal.returns-clause-ok
unfolding attribute_list
returns-clause-ok c =
    let none_left = at_drop_all (λ xs. separated (map attribute_text xs)) c.in-Some.others.now c.loop-attribute.attribute-index c.loop-attribute-test.false in
    rw (c.in-Some.ensures.cases.0) (joined _ _ _ _ _ c.in_ok-push_attribute.ensures.ok (rw none_left at c.loop-attribute.invariant.written))

pub returns-in_err-push_str-clause-full : goal.returns-in_err-push_str-clause-full
unfolding attribute_list
returns-in_err-push_str-clause-full c = λ plain.
    let told = err_from_is_err_and c.from_residual-in_err-push_str.result c.from_residual-in_err-push_str.ensures.1 in
    let i = c.loop-attribute.attribute-index in
    let more = item-long attribute_text c.in-Some.others.now i c.in-Some.first.now c.loop-attribute-test.true in
    let all = all-long (string_bytes c.args.out.now) (string_bytes c.push_attribute.new.out) (string_bytes c.loop-attribute.out) (attribute_text c.in-Some.first.now)
    (map attribute_text c.in-Some.others.now) (map attribute_text (drop i c.in-Some.others.now)) c.in_ok-push_attribute.ensures.ok c.loop-attribute.invariant.written in
    rw (told.1, c.in-Some.ensures.cases.0) (omega (arith, more, all, c.in_err-push_str.ensures.full, c.loop-attribute.out.bytes.ok.0, c.args.out.now.bytes.ok.0))

pub returns-in_err-push_attribute-2-clause-full : goal.returns-in_err-push_attribute-2-clause-full
unfolding attribute_list
returns-in_err-push_attribute-2-clause-full c = λ plain.
    let told = err_from_is_err_and c.from_residual-in_err-push_attribute-2.result c.from_residual-in_err-push_attribute-2.ensures.1 in
    let i = c.loop-attribute.attribute-index in
    let none : Attribute = record { name = record { ref_ptr = (0, 0); now = [] }; value = Decimal 0 } in
    let others = rw c.in-Some.ensures.cases.0 at plain in
    let full = c.in_err-push_attribute-2.ensures.full (others (suc i) none (omega (arith, c.loop-attribute-test.true))) in
    let more = item-long attribute_text c.in-Some.others.now i none c.loop-attribute-test.true in
    let all = all-long (string_bytes c.args.out.now) (string_bytes c.push_attribute.new.out) (string_bytes c.loop-attribute.out) (attribute_text c.in-Some.first.now)
    (map attribute_text c.in-Some.others.now) (map attribute_text (drop i c.in-Some.others.now)) c.in_ok-push_attribute.ensures.ok c.loop-attribute.invariant.written in
    rw (told.1, c.in-Some.ensures.cases.0) (omega (arith, more, all, full, c.in_ok-push_str.ensures.len, c.in_ok-push_str.ensures.capacity, c.loop-attribute.out.bytes.ok.0, c.args.out.now.bytes.ok.0))

pub returns-in_err-push_attribute-clause-part : goal.returns-in_err-push_attribute-clause-part
unfolding attribute_list
returns-in_err-push_attribute-clause-part c =
    let told = err_from_is_err_and c.from_residual.result c.from_residual.ensures.1 in
    rw (told.1, c.in-Some.ensures.cases.0) (list-front _ _ _ _ c.in_err-push_attribute.ensures.part)

pub returns-in_err-push_str-clause-part : goal.returns-in_err-push_str-clause-part
unfolding attribute_list
returns-in_err-push_str-clause-part c =
    let told = err_from_is_err_and c.from_residual-in_err-push_str.result c.from_residual-in_err-push_str.ensures.1 in
    rw (told.1, c.in-Some.ensures.cases.0) (list-then _ _ _ _ _ c.in_ok-push_attribute.ensures.ok
    (left-then attribute_text _ _ _ c.in-Some.others.now c.loop-attribute.attribute-index c.loop-attribute.invariant.written (part-none _ _ _ c.in_err-push_str.ensures.bytes)))

pub returns-in_err-push_attribute-2-clause-part : goal.returns-in_err-push_attribute-2-clause-part
unfolding attribute_list
returns-in_err-push_attribute-2-clause-part c =
    let told = err_from_is_err_and c.from_residual-in_err-push_attribute-2.result c.from_residual-in_err-push_attribute-2.ensures.1 in
    let none : Attribute = record { name = record { ref_ptr = (0, 0); now = [] }; value = Decimal 0 } in
    rw (told.1, c.in-Some.ensures.cases.0) (list-then _ _ _ _ _ c.in_ok-push_attribute.ensures.ok
    (left-then attribute_text _ _ _ c.in-Some.others.now c.loop-attribute.attribute-index c.loop-attribute.invariant.written
    (item-then attribute_text _ _ _ c.in-Some.others.now c.loop-attribute.attribute-index none c.loop-attribute-test.true c.in_ok-push_str.ensures.bytes c.in_err-push_attribute-2.ensures.part)))
