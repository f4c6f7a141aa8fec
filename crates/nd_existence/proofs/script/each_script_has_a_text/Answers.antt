use Rattle.nd_existence.proofs.Lines.{all_read, text_of}
use Rattle.nd_existence.proofs.script.each_script_has_a_text.Goals as goal

pub returns-clause-read : goal.returns-clause-read
returns-clause-read c = λ n lines. all_read lines n

pub returns-clause-text : goal.returns-clause-text
returns-clause-text c = λ start n lines. text_of start n lines
