use Rattle.nd_link_log.proofs.Reports.{text_of_reports}
use Rattle.nd_link_log.proofs.laws.text_is_of_reports.Goals as goal

pub returns : goal.returns
returns c = λ log. text_of_reports log
