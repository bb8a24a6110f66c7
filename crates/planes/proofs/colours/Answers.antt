-- `planes::colours` meets its contract. Assumes nothing.
use Rattle.planes.proofs.Pixels.{none_held, rct_taken, rct_numbers, rct_held}
use Rattle.planes.proofs.colours.Goals as goal

pub returns-then-cpih-ne1 : goal.returns-then-cpih-ne1
returns-then-cpih-ne1 c = none_held (λ e. c.if-cpih-ne1.true e) c.args.kind c.requires.1

pub inverse_rct-requires : goal.inverse_rct-requires
inverse_rct-requires c =
    let one = c.if-cpih-ne1.false in record {
      stretches = rct_taken c.requires.0 (c.requires.2.three one) (c.requires.2.full one) c.samples_before-second.ensures.0
          c.samples_before-third.ensures.0 c.area_of-n.ensures.0;
      holding_numbers = λ k. rct_numbers c.requires.0 (c.requires.2.three one) (c.requires.2.full one) c.samples_before-second.ensures.0
          c.samples_before-third.ensures.0 c.area_of-n.ensures.0 (c.requires.1 k);
    }

pub returns : goal.returns
returns c =
    let one = c.if-cpih-ne1.false in
    rct_held c.requires.0 (c.requires.2.three one) (c.requires.2.full one) c.samples_before-second.ensures.0
    c.samples_before-third.ensures.0 c.area_of-n.ensures.0 one c.args.kind c.requires.1 c.inverse_rct.ensures
