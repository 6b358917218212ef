-- The verdict's number that a refusal stands for.
use Rattle.std.specs.Prelude.{ℕ, ◌≡◌, Option, Some, None}
use Rattle.texts.specs.declared.faults.Refusal.{Refusal}
use Rattle.texts.specs.declared.faults.Refusal.TheVariants.{Size, CutShort, Version, Limit, Constant, Access, Malformed, Twice, Missing, CodeShape, Opcode, Target, Named, FrameTable, Depth, Operand, Flow, Construction, Lent}

abbrev pub number : Refusal → ℕ
number Size = 1
number CutShort = 2
number Version = 3
number Limit = 4
number Constant = 5
number Access = 6
number Malformed = 7
number Twice = 8
number Missing = 9
number CodeShape = 10
number Opcode = 11
number Target = 12
number Named = 13
number FrameTable = 14
number Depth = 15
number Operand = 16
number Flow = 17
number Construction = 18
number Lent = 20

-- the same of what may be refused, 0 where it is not
abbrev pub refused : Option Refusal → ℕ
refused None = 0
refused (Some r) = number r

-- which no refusal's number is
pub never_none : (r : Refusal) → number r ≡ 0 → ⊥
never_none Size e = cc
never_none CutShort e = cc
never_none Version e = cc
never_none Limit e = cc
never_none Constant e = cc
never_none Access e = cc
never_none Malformed e = cc
never_none Twice e = cc
never_none Missing e = cc
never_none CodeShape e = cc
never_none Opcode e = cc
never_none Target e = cc
never_none Named e = cc
never_none FrameTable e = cc
never_none Depth e = cc
never_none Operand e = cc
never_none Flow e = cc
never_none Construction e = cc
never_none Lent e = cc
