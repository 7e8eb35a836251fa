use Rattle.waist.specs.KindsRead.{pivotable-is, pivotable-not}
use Rattle.waist.proofs.kinds.Kind.is_pivotable.Goals as goal

pub returns-in-Slack : goal.returns-in-Slack
returns-in-Slack c = pivotable-is _ c.in-Slack.is

pub returns-in_default : goal.returns-in_default
returns-in_default c = pivotable-not _ c.in_default.not-Slack c.in_default.not-Error
