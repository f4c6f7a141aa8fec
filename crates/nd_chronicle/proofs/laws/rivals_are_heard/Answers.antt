use Rattle.nd_chronicle.proofs.Rivals.{tried, told}
use Rattle.nd_chronicle.proofs.laws.rivals_are_heard.Goals as goal

pub returns-clause-tried : goal.returns-clause-tried
returns-clause-tried c = λ start c' d now frame address bytes unicast t own awake foreign allowed adds. tried start c' now frame address bytes d unicast t own awake foreign allowed adds

pub returns-clause-held : goal.returns-clause-held
returns-clause-held c = λ start c' d now frame address bytes unicast t awake foreign allowed adds. told start c' now frame address bytes d unicast t awake foreign allowed adds
