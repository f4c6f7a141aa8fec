use Rattle.std.proofs.Common.{◌≡◌, Some, refl}
use Rattle.nd_out.specs.declared.out.Way.TheVariants as ways
use Rattle.nd_node.specs.declared.resolve.Resolution.TheVariants as resolutions
use Rattle.nd_session.proofs.Remembered.{recalled_goes, recalled_leased, recalled_settled, remembers_later}
use Rattle.nd_session.proofs.session.Session.answer_within.Goals as goal

pub invariant_of-self : goal.invariant_of-self
invariant_of-self c =
    record { remembered = remembers_later c.args.self.now.paths c.args.self.now.node c.answer_leased.new.self c.args.now c.answer_leased.ensures.clock c.args.self.now.remembered }

pub returns-in-Path-clause-answered : goal.returns-in-Path-clause-answered
returns-in-Path-clause-answered c = record {
  settled = recalled_settled c.args.self.now.paths c.args.self.now.node c.args.now c.args.destination c.args.path c.args.self.now.remembered c.requires.recalled;
  resolution = resolutions.Path c.in-Path.way;
  is = refl;
  adds = c.in-Path.ensures.adds;
  reports = refl;
  lease = recalled_leased c.args.self.now.paths c.args.self.now.node c.args.now c.args.destination c.args.path c.args.self.now.remembered c.requires.recalled _ c.answer_leased.ensures.clock;
  goes = recalled_goes c.args.self.now.paths c.args.self.now.node c.args.now c.args.destination c.args.path c.args.self.now.remembered c.requires.recalled c.in-Path.way
      (let is = c.in-Path.ensures.answer in let same : ways.To c.args.path.to (Some c.args.path.mac) ≡ c.in-Path.way = cc in same) _ c.answer_leased.ensures.clock;
}
