use Rattle.std.proofs.Common.{refl}
use Rattle.segment_job.proofs.Digits.{numbers-written}
use Rattle.segment_job.proofs.printing.write_numbers.Goals as goal

pub returns : goal.returns
returns g c = λ flush ok.
    let one = c.in_ok-write_str.ensures.styled flush refl in
    let two = c.in_ok-fmt.ensures.styled one.flush refl in
    let three = c.in_ok-write_str-2.ensures.styled two.flush refl in
    let four = c.in_ok-fmt-2.ensures.styled three.flush refl in
    let five = c.write_str-3.ensures.styled four.flush ok in
    numbers-written _ _ _ _ _ _ _ _ _ _ _ one two three four five
