use Rattle.std.proofs.Common.{[]}
use Rattle.ndpctl_tool.proofs.link.link_over_memory.Goals as goal

pub returns-clause-ok : goal.returns-clause-ok
returns-clause-ok g c = c.run_link.ensures.ok c.memory_is_faithful.ensures [] c.new-script.ensures.stands

pub returns-clause-line : goal.returns-clause-line
returns-clause-line g c = λ n is. c.run_link.ensures.line n is c.memory_is_faithful.ensures [] c.new-script.ensures.stands

pub returns-clause-front : goal.returns-clause-front
returns-clause-front g c = c.run_link.ensures.front c.memory_is_faithful.ensures [] c.new-script.ensures.stands

pub returns-clause-beginning : goal.returns-clause-beginning
returns-clause-beginning g c = c.run_link.ensures.beginning c.memory_is_faithful.ensures [] c.new-script.ensures.stands

pub returns-clause-answered : goal.returns-clause-answered
returns-clause-answered g c = λ is. c.run_link.ensures.answered is c.memory_is_faithful.ensures [] c.new-script.ensures.stands

pub returns-clause-memory : goal.returns-clause-memory
returns-clause-memory g c = λ is. c.run_link.ensures.memory is c.memory_is_faithful.ensures [] c.new-script.ensures.stands
