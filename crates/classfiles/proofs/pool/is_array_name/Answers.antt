use Rattle.classfiles.specs.Pool.{is_array_name}
use Rattle.classfiles.proofs.pool.is_array_name.Goals as goal

pub returns : goal.returns
unfolding is_array_name
returns c = rw (c.byte.ensures.0, c.text_of.ensures)
