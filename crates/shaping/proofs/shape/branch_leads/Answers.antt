use Rattle.shaping.specs.TraitLaws.{leads_one}
use Rattle.shaping.proofs.shape.branch_leads.Goals as goal

pub returns-in-Goto : goal.returns-in-Goto
returns-in-Goto c = rw c.in-Goto.is (leads_one _ _ _ c.is_start.ensures)

pub returns-in-Ifint : goal.returns-in-Ifint
returns-in-Ifint c = rw c.in-Ifint.is (leads_one _ _ _ c.is_start-in-Ifint.ensures)

pub returns-in-Ificmp : goal.returns-in-Ificmp
returns-in-Ificmp c = rw c.in-Ificmp.is (leads_one _ _ _ c.is_start-in-Ificmp.ensures)

pub returns-in-Ifacmp : goal.returns-in-Ifacmp
returns-in-Ifacmp c = rw c.in-Ifacmp.is (leads_one _ _ _ c.is_start-in-Ifacmp.ensures)

pub returns-in-Ifnull : goal.returns-in-Ifnull
returns-in-Ifnull c = rw c.in-Ifnull.is (leads_one _ _ _ c.is_start-in-Ifnull.ensures)
