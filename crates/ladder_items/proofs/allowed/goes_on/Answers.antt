use Rattle.ladder_items.proofs.allowed.goes_on.Goals as goal

pub returns-then-have_keys : goal.returns-then-have_keys
returns-then-have_keys c =
    let begins = rw c.deref.ensures.value at (c.begins_behind.ensures.0 c.if-not-begins_behind.false) in
    let turns = rw c.deref-2.ensures.value at (c.have_keys.ensures.0 c.if-have_keys.true) in
    let follows = rw c.deref-then-have_keys.ensures.value at c.follow.ensures in
    rw (← c.rendition.view_is) (
      λ is. record {
        first = begins.0;
        few = begins.1;
        follow = follows.0 is;
        turns = turns;
        limit = begins.2;
        discontinuities = begins.3;
        small = begins.4;
        all = begins.5;
      },
      λ goes. follows.1 goes.follow,
    )
