use Rattle.std.proofs.Common.{◌≡◌, List, [], ◌∷◌, ℕ, ◌++◌, ap, refl, subst, sym, ◌∙◌}
use Rattle.std.proofs.lemmas.Result.{err_from_is_err_and}
use Rattle.playlist_text.specs.Appended.{AppendsPart}
use Rattle.playlist_text.proofs.Appending.{part-front, part-none, part-then, part-whole}
use Rattle.playlist_text.proofs.TextLines.{append_then}
use Rattle.std.specs.Prelude.{codes, map}
use Rattle.std.specs.String.{string_bytes}
use Rattle.playlist_text.specs.Uris.{frames_uri}
use Rattle.playlist_text.specs.AttributeValues.{attribute_text}
use Rattle.playlist_text.specs.Attributes.{quoted, attribute, attribute_list}
use Rattle.master_playlist.specs.Listed.{Listed}
use Rattle.master_playlist.specs.MasterLines.{attributes}
use Rattle.master_playlist.proofs.Texts.{one_line, frame-part, frames-is}
use Rattle.master_playlist.proofs.text.push_frame.Goals as goal

pub returns-clause-ok : goal.returns-clause-ok
returns-clause-ok c =
    let v : Listed = c.args.variant.now in
    let rates =
    c.in_ok-push_attribute_list.ensures.ok
    ∙ ap (λ (xs : List (List ℕ)). string_bytes c.push_str.new.self ++ attribute_list xs) c.attributes_of-rates.ensures.ok
    ∙ ap (λ (w : Listed). string_bytes c.push_str.new.self ++ attribute_list (attributes v w.frame_peak w.frame_average)) c.variant.view_is in
    let uri : c.deref.result.now ≡ frames_uri v.name =
    c.deref.ensures ∙ c.in_ok-push_frames_uri.ensures.ok ∙ ap (λ (t : List ℕ). t ++ frames_uri c.variant.inside.name.now) c.new-uri.ensures.bytes
    ∙ ap (λ (w : Listed). frames_uri w.name) c.variant.view_is in
    let last =
    c.in_ok-push_attribute_list-2.ensures.ok
    ∙ ap (λ (t : List ℕ). string_bytes c.push_str-2.new.self ++ attribute_list (attribute (codes "URI") (quoted t) ∷ [])) uri in
    one_line _ _ _ _ _ _ _ _ _ _ _ c.in_ok-push_str.ensures.bytes rates c.in_ok-push_str-2.ensures.bytes last c.in_ok-push_str-3.ensures.bytes
    ∙ ap (λ (t : List ℕ). string_bytes c.args.out.now ++ t) (sym (frames-is v))

pub returns-in_err-push_frames_uri-clause-part : goal.returns-in_err-push_frames_uri-clause-part
returns-in_err-push_frames_uri-clause-part c =
    let told = err_from_is_err_and c.from_residual.result c.from_residual.ensures.1 in
    rw told.1 (part-none _ _ _ refl)

pub returns-in_err-push_str-clause-part : goal.returns-in_err-push_str-clause-part
returns-in_err-push_str-clause-part c =
    let told = err_from_is_err_and c.from_residual-in_err-push_str.result c.from_residual-in_err-push_str.ensures.1 in
    rw told.1 (part-none _ _ _ c.in_err-push_str.ensures.bytes)

pub returns-in_err-push_attribute_list-clause-part : goal.returns-in_err-push_attribute_list-clause-part
returns-in_err-push_attribute_list-clause-part c =
    let told = err_from_is_err_and c.from_residual-in_err-push_attribute_list.result c.from_residual-in_err-push_attribute_list.ensures.1 in
    let v : Listed = c.args.variant.now in
    let listed : attribute_list (map attribute_text c.attributes_of-rates.result) ≡ attribute_list (attributes v v.frame_peak v.frame_average) =
    ap attribute_list c.attributes_of-rates.ensures.ok ∙ ap (λ (w : Listed). attribute_list (attributes v w.frame_peak w.frame_average)) c.variant.view_is in
    let some = subst (λ (all : List ℕ). AppendsPart (string_bytes c.push_str.new.self) all (string_bytes c.push_attribute_list.new.out)) listed c.in_err-push_attribute_list.ensures.part in
    rw told.1 (frame-part v _ _ (part-then _ _ _ _ _ c.in_ok-push_str.ensures.bytes (part-front _ _ _ _ (part-front _ _ _ _ some))))

pub returns-in_err-push_str-2-clause-part : goal.returns-in_err-push_str-2-clause-part
returns-in_err-push_str-2-clause-part c =
    let told = err_from_is_err_and c.from_residual-in_err-push_str-2.result c.from_residual-in_err-push_str-2.ensures.1 in
    let v : Listed = c.args.variant.now in
    let listed : attribute_list (map attribute_text c.attributes_of-rates.result) ≡ attribute_list (attributes v v.frame_peak v.frame_average) =
    ap attribute_list c.attributes_of-rates.ensures.ok ∙ ap (λ (w : Listed). attribute_list (attributes v w.frame_peak w.frame_average)) c.variant.view_is in
    let rates : string_bytes c.push_attribute_list.new.out ≡ string_bytes c.push_str.new.self ++ attribute_list (attributes v v.frame_peak v.frame_average) =
    c.in_ok-push_attribute_list.ensures.ok ∙ ap (λ (t : List ℕ). string_bytes c.push_str.new.self ++ t) listed in
    rw told.1 (frame-part v _ _ (part-then _ _ _ _ _ c.in_ok-push_str.ensures.bytes (part-front _ _ _ _ (part-then _ _ _ _ _ rates (part-none _ _ _ c.in_err-push_str-2.ensures.bytes)))))

pub returns-in_err-push_attribute_list-2-clause-part : goal.returns-in_err-push_attribute_list-2-clause-part
returns-in_err-push_attribute_list-2-clause-part c =
    let told = err_from_is_err_and c.from_residual-in_err-push_attribute_list-2.result c.from_residual-in_err-push_attribute_list-2.ensures.1 in
    let v : Listed = c.args.variant.now in
    let listed : attribute_list (map attribute_text c.attributes_of-rates.result) ≡ attribute_list (attributes v v.frame_peak v.frame_average) =
    ap attribute_list c.attributes_of-rates.ensures.ok ∙ ap (λ (w : Listed). attribute_list (attributes v w.frame_peak w.frame_average)) c.variant.view_is in
    let rates : string_bytes c.push_attribute_list.new.out ≡ string_bytes c.push_str.new.self ++ attribute_list (attributes v v.frame_peak v.frame_average) =
    c.in_ok-push_attribute_list.ensures.ok ∙ ap (λ (t : List ℕ). string_bytes c.push_str.new.self ++ t) listed in
    let uri : c.deref.result.now ≡ frames_uri v.name =
    c.deref.ensures ∙ c.in_ok-push_frames_uri.ensures.ok ∙ ap (λ (t : List ℕ). t ++ frames_uri c.variant.inside.name.now) c.new-uri.ensures.bytes
    ∙ ap (λ (w : Listed). frames_uri w.name) c.variant.view_is in
    let some = subst (λ (t : List ℕ). AppendsPart (string_bytes c.push_str-2.new.self) (attribute_list (attribute (codes "URI") (quoted t) ∷ [])) (string_bytes c.push_attribute_list-2.new.out)) uri
    c.in_err-push_attribute_list-2.ensures.part in
    rw told.1 (frame-part v _ _ (part-then _ _ _ _ _ c.in_ok-push_str.ensures.bytes (part-then _ _ _ _ _ (append_then _ _ _ _ _ rates c.in_ok-push_str-2.ensures.bytes) some)))

pub returns-in_err-push_str-3-clause-part : goal.returns-in_err-push_str-3-clause-part
returns-in_err-push_str-3-clause-part c =
    let told = err_from_is_err_and c.from_residual-in_err-push_str-3.result c.from_residual-in_err-push_str-3.ensures.1 in
    let v : Listed = c.args.variant.now in
    let listed : attribute_list (map attribute_text c.attributes_of-rates.result) ≡ attribute_list (attributes v v.frame_peak v.frame_average) =
    ap attribute_list c.attributes_of-rates.ensures.ok ∙ ap (λ (w : Listed). attribute_list (attributes v w.frame_peak w.frame_average)) c.variant.view_is in
    let rates : string_bytes c.push_attribute_list.new.out ≡ string_bytes c.push_str.new.self ++ attribute_list (attributes v v.frame_peak v.frame_average) =
    c.in_ok-push_attribute_list.ensures.ok ∙ ap (λ (t : List ℕ). string_bytes c.push_str.new.self ++ t) listed in
    let uri : c.deref.result.now ≡ frames_uri v.name =
    c.deref.ensures ∙ c.in_ok-push_frames_uri.ensures.ok ∙ ap (λ (t : List ℕ). t ++ frames_uri c.variant.inside.name.now) c.new-uri.ensures.bytes
    ∙ ap (λ (w : Listed). frames_uri w.name) c.variant.view_is in
    let last =
    c.in_ok-push_attribute_list-2.ensures.ok
    ∙ ap (λ (t : List ℕ). string_bytes c.push_str-2.new.self ++ attribute_list (attribute (codes "URI") (quoted t) ∷ [])) uri in
    let line = append_then _ _ _ _ _ (append_then _ _ _ _ _ rates c.in_ok-push_str-2.ensures.bytes) last in
    rw told.1 (frame-part v _ _ (part-then _ _ _ _ _ c.in_ok-push_str.ensures.bytes (part-whole _ _ _ (c.in_err-push_str-3.ensures.bytes ∙ line))))
