use Rattle.std.proofs.Common.{◌≡◌, ◌∙◌, ◌++◌}
use Rattle.std.specs.Prelude.{codes}
use Rattle.std.specs.String.{string_bytes}
use Rattle.channel_folder.specs.Files.{segment_in}
use Rattle.channel_folder.proofs.Listing.{found-more, none-more, number-at}
use Rattle.channel_folder.proofs.scanning.numbers_of.Goals as goal

pub loop-file-preserved-in_default : goal.loop-file-preserved-in_default
loop-file-preserved-in_default c =
    let file : c.as_bytes.result.now ≡ string_bytes c.file-item.result = c.as_bytes.ensures.value in
    let front : c.as_bytes-in-loop-file.result.now ≡ c.args.name.now ++ codes "." = c.as_bytes-in-loop-file.ensures.value ∙ c.in_ok-front.ensures in
    let read : segment_in c.args.name.now (string_bytes c.file-item.result) ≡ c.number_between.result =
    number-at c.as_bytes.result.now c.as_bytes-in-loop-file.result.now c.args.name.now (string_bytes c.file-item.result) c.number_between.result c.number_between.ensures file front in
    none-more (segment_in c.args.name.now) c.args.files.now c.loop-file.file-index c.file-item.result c.loop-file.numbers.items
    c.loop-file-test.true c.file-item.is c.loop-file.invariant (read ∙ c.in_default.is)

pub loop-file-preserved : goal.loop-file-preserved
loop-file-preserved c =
    let file : c.as_bytes.result.now ≡ string_bytes c.file-item.result = c.as_bytes.ensures.value in
    let front : c.as_bytes-in-loop-file.result.now ≡ c.args.name.now ++ codes "." = c.as_bytes-in-loop-file.ensures.value ∙ c.in_ok-front.ensures in
    let read : segment_in c.args.name.now (string_bytes c.file-item.result) ≡ c.number_between.result =
    number-at c.as_bytes.result.now c.as_bytes-in-loop-file.result.now c.args.name.now (string_bytes c.file-item.result) c.number_between.result c.number_between.ensures file front in
    found-more (segment_in c.args.name.now) c.args.files.now c.loop-file.file-index c.file-item.result c.in-Some.n c.loop-file.numbers.items c.push.new.self.items
    c.loop-file-test.true c.file-item.is c.loop-file.invariant (read ∙ c.in-Some.is) c.in_ok-push.ensures.items
