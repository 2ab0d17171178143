-- What a reply means, and whether the walk or the Get continues once its rows were given to a
-- sink. In code, a `Judgement` or a `Course` says that the run ends, and the end is stored beside
-- it; here both are one value. For private clauses.
use Rattle.std.specs.Prelude.{Option, None, Some}
use Rattle.snmp_walk.specs.{declared.end.WalkEnd.WalkEnd, declared.rows.Step.Step}
use Rattle.snmp_walk.specs.{declared.tries.Course.Course, declared.tries.Judgement.Judgement}
use Rattle.snmp_walk.specs.declared.rows.Step.TheVariants as step
use Rattle.snmp_walk.specs.declared.tries.Course.TheVariants as course
use Rattle.snmp_walk.specs.declared.tries.Judgement.TheVariants as judgement

-- the step that a judgement means, with the end stored beside it
abbrev pub step_of : Judgement → WalkEnd → Step
step_of judgement.Stray end = step.Stray
step_of (judgement.GoesOn rows) end = step.Rows rows
step_of (judgement.Ends rows) end = step.Last rows end

-- the walk or the Get continues, or ends in this way
pub data Heard : Type 0 where
  goes_on : Heard
  ends : WalkEnd → Heard

-- what a course says, with the end stored beside it
abbrev pub heard_of : Course → WalkEnd → Heard
heard_of course.GoesOn end = goes_on
heard_of course.Ends end = ends end

-- the end, if there is one
abbrev pub end_of : Heard → Option WalkEnd
end_of goes_on = None
end_of (ends why) = Some why

abbrev pub ended : Course → WalkEnd → Option WalkEnd
ended course end = end_of (heard_of course end)
