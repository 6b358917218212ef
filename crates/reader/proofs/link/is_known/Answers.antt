use Rattle.std.proofs.Common.{◌≤◌, ◌+◌, ◌∙◌, sym, le-ltb, arith}
use Rattle.reader.specs.Chains.{known_at}
use Rattle.texts.specs.Answers.{ltb_via}
use Rattle.reader.proofs.link.is_known.Goals as goal

pub returns-in-Some : goal.returns-in-Some
unfolding known_at
returns-in-Some c = ltb_via _ _ _ (c.in-Some.ensures.0 27)

pub returns-in-None : goal.returns-in-None
unfolding known_at
returns-in-None c = let h : 11 + c.args.n ≤ 27 = omega (arith, c.requires.0) in sym (le-ltb 27 (11 + c.args.n) h) ∙ ltb_via _ _ _ (c.in-None.ensures.0 27)
