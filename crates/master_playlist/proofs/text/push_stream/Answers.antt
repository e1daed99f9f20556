use Rattle.std.proofs.Common.{◌≡◌, ◌+◌, ◌<◌, length, List, ℕ, ◌++◌, ap, sym, ◌∙◌, arith}
use Rattle.std.specs.String.{string_bytes, string_capacity, string_len}
use Rattle.playlist_text.specs.Lines.{text_of}
use Rattle.playlist_text.specs.Uris.{media_uri}
use Rattle.playlist_text.specs.Attributes.{attribute_list}
use Rattle.master_playlist.specs.Listed.{Listed}
use Rattle.master_playlist.specs.MasterLines.{attributes, stream_lines}
use Rattle.master_playlist.proofs.Texts.{OnErr-fact, grown, two_lines, stream-is, stream-long}
use Rattle.master_playlist.proofs.text.push_stream.Goals as goal

pub returns-clause-ok : goal.returns-clause-ok
returns-clause-ok c =
    let v : Listed = c.args.variant.now in
    let rates =
    c.in_ok-push_attribute_list.ensures.ok
    ∙ ap (λ (xs : List (List ℕ)). string_bytes c.push_str.new.self ++ attribute_list xs) c.attributes_of-rates.ensures.ok
    ∙ ap (λ (w : Listed). string_bytes c.push_str.new.self ++ attribute_list (attributes v w.peak w.average)) c.variant.view_is in
    let media = c.in_ok-push_media_uri.ensures.ok ∙ ap (λ (w : Listed). string_bytes c.push_str-2.new.self ++ media_uri w.name) c.variant.view_is in
    two_lines _ _ _ _ _ _ _ _ _ _ c.in_ok-push_str.ensures.bytes rates c.in_ok-push_str-2.ensures.bytes media c.in_ok-push_str-3.ensures.bytes
    ∙ ap (λ (t : List ℕ). string_bytes c.args.out.now ++ t) (sym (stream-is v))

pub returns-in_err-push_str-clause-full : goal.returns-in_err-push_str-clause-full
returns-in_err-push_str-clause-full c =
    let full : string_capacity c.args.out.now < string_len c.args.out.now + length (text_of (stream_lines c.args.variant.now)) =
    omega (arith, stream-long c.args.variant.now, c.in_err-push_str.ensures.full) in
    OnErr-fact _ full

pub returns-in_err-push_attribute_list-clause-full : goal.returns-in_err-push_attribute_list-clause-full
returns-in_err-push_attribute_list-clause-full c =
    let v : Listed = c.args.variant.now in
    let rates =
    ap attribute_list c.attributes_of-rates.ensures.ok ∙ ap (λ (w : Listed). attribute_list (attributes v w.peak w.average)) c.variant.view_is in
    let told = rw rates at (c.in_err-push_attribute_list.ensures.full c.attributes_of-rates.ensures.plain) in
    let full : string_capacity c.args.out.now < string_len c.args.out.now + length (text_of (stream_lines c.args.variant.now)) =
    omega (arith, stream-long v, told, c.in_ok-push_str.ensures.len, c.in_ok-push_str.ensures.capacity) in
    OnErr-fact _ full

pub returns-in_err-push_str-2-clause-full : goal.returns-in_err-push_str-2-clause-full
returns-in_err-push_str-2-clause-full c =
    let v : Listed = c.args.variant.now in
    let rates : string_bytes c.push_attribute_list.new.out ≡ string_bytes c.push_str.new.self ++ attribute_list (attributes v v.peak v.average) =
    c.in_ok-push_attribute_list.ensures.ok
    ∙ ap (λ (xs : List (List ℕ)). string_bytes c.push_str.new.self ++ attribute_list xs) c.attributes_of-rates.ensures.ok
    ∙ ap (λ (w : Listed). string_bytes c.push_str.new.self ++ attribute_list (attributes v w.peak w.average)) c.variant.view_is in
    let full : string_capacity c.args.out.now < string_len c.args.out.now + length (text_of (stream_lines c.args.variant.now)) =
    omega (
      arith,
      stream-long v,
      grown (string_bytes c.push_str.new.self) (string_bytes c.push_attribute_list.new.out) (attribute_list (attributes v v.peak v.average)) rates,
      c.in_err-push_str-2.ensures.full,
      c.in_ok-push_str.ensures.len,
      c.in_ok-push_str.ensures.capacity,
      c.push_str.new.self.bytes.ok.0,
      c.push_attribute_list.new.out.bytes.ok.0,
    ) in
    OnErr-fact _ full

pub returns-in_err-push_media_uri-clause-full : goal.returns-in_err-push_media_uri-clause-full
returns-in_err-push_media_uri-clause-full c =
    let v : Listed = c.args.variant.now in
    let rates : string_bytes c.push_attribute_list.new.out ≡ string_bytes c.push_str.new.self ++ attribute_list (attributes v v.peak v.average) =
    c.in_ok-push_attribute_list.ensures.ok
    ∙ ap (λ (xs : List (List ℕ)). string_bytes c.push_str.new.self ++ attribute_list xs) c.attributes_of-rates.ensures.ok
    ∙ ap (λ (w : Listed). string_bytes c.push_str.new.self ++ attribute_list (attributes v w.peak w.average)) c.variant.view_is in
    let uri : media_uri c.variant.inside.name.now ≡ media_uri v.name = ap (λ (w : Listed). media_uri w.name) c.variant.view_is in
    let full : string_capacity c.args.out.now < string_len c.args.out.now + length (text_of (stream_lines c.args.variant.now)) =
    omega (
      arith,
      stream-long v,
      grown (string_bytes c.push_str.new.self) (string_bytes c.push_attribute_list.new.out) (attribute_list (attributes v v.peak v.average)) rates,
      c.in_err-push_media_uri.ensures.full,
      ap length uri,
      c.in_ok-push_str.ensures.len,
      c.in_ok-push_str.ensures.capacity,
      c.in_ok-push_str-2.ensures.len,
      c.in_ok-push_str-2.ensures.capacity,
      c.push_str.new.self.bytes.ok.0,
      c.push_attribute_list.new.out.bytes.ok.0,
    ) in
    OnErr-fact _ full

pub returns-in_err-push_str-3-clause-full : goal.returns-in_err-push_str-3-clause-full
returns-in_err-push_str-3-clause-full c =
    let v : Listed = c.args.variant.now in
    let rates : string_bytes c.push_attribute_list.new.out ≡ string_bytes c.push_str.new.self ++ attribute_list (attributes v v.peak v.average) =
    c.in_ok-push_attribute_list.ensures.ok
    ∙ ap (λ (xs : List (List ℕ)). string_bytes c.push_str.new.self ++ attribute_list xs) c.attributes_of-rates.ensures.ok
    ∙ ap (λ (w : Listed). string_bytes c.push_str.new.self ++ attribute_list (attributes v w.peak w.average)) c.variant.view_is in
    let media : string_bytes c.push_media_uri.new.out ≡ string_bytes c.push_str-2.new.self ++ media_uri v.name = c.in_ok-push_media_uri.ensures.ok ∙ ap (λ (w : Listed). string_bytes c.push_str-2.new.self ++ media_uri w.name) c.variant.view_is in
    let full : string_capacity c.args.out.now < string_len c.args.out.now + length (text_of (stream_lines c.args.variant.now)) =
    omega (
      arith,
      stream-long v,
      grown (string_bytes c.push_str.new.self) (string_bytes c.push_attribute_list.new.out) (attribute_list (attributes v v.peak v.average)) rates,
      grown (string_bytes c.push_str-2.new.self) (string_bytes c.push_media_uri.new.out) (media_uri v.name) media,
      c.in_err-push_str-3.ensures.full,
      c.in_ok-push_str.ensures.len,
      c.in_ok-push_str.ensures.capacity,
      c.in_ok-push_str-2.ensures.len,
      c.in_ok-push_str-2.ensures.capacity,
      c.push_str.new.self.bytes.ok.0,
      c.push_attribute_list.new.out.bytes.ok.0,
      c.push_str-2.new.self.bytes.ok.0,
      c.push_media_uri.new.out.bytes.ok.0,
    ) in
    OnErr-fact _ full
