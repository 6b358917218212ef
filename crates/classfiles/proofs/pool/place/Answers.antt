use Rattle.classfiles.specs.Tags.{place_none, place_past, place_in}
use Rattle.classfiles.proofs.pool.place.Goals as goal

pub returns-then-i-eq0 : goal.returns-then-i-eq0
returns-then-i-eq0 c = λ s h. place_none _ _ s h c.if-i-eq0.true

pub returns-then-i-tags : goal.returns-then-i-tags
returns-then-i-tags c = place_in _ _ _ c.if-i-eq0.false c.if-i-tags.true c.word.ensures

pub returns : goal.returns
returns c = λ s h. place_past _ _ s h c.if-i-tags.false
