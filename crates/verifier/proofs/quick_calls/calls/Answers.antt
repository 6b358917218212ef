use Rattle.verifier.specs.QuickCalls.{tried_virtual, tried_static}
use Rattle.verifier.proofs.quick_calls.calls.Goals as goal

pub returns-in-182 : goal.returns-in-182
returns-in-182 c = tried_virtual _ _ _ _ _ _ _ _ _ _ c.requires.0 c.requires.1 _ c.requires.2 _ c.named_at.ensures c.in-182.is c.call_virtual.ensures

pub returns-in-184 : goal.returns-in-184
returns-in-184 c = tried_static _ _ _ _ _ _ _ _ _ _ c.requires.0 c.requires.1 _ c.requires.2 _ c.named_at-in-184.ensures c.in-184.is c.call_static.ensures
