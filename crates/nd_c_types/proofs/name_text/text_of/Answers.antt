use Rattle.std.proofs.Common.{arith}
use Rattle.nd_search_list.proofs.Texts.{text_is}
use Rattle.nd_search_list.proofs.Labels.{spelled_some}
use Rattle.nd_c_types.proofs.Texts.{length_text, padded_text}
use Rattle.nd_c_types.proofs.name_text.text_of.Goals as goal

pub returns-in_default-clause-length : goal.returns-in_default-clause-length
returns-in_default-clause-length c = absurd (omega (arith, spelled_some c.args.bytes.now c.requires))

pub returns-in-len1-up-clause-written : goal.returns-in-len1-up-clause-written
returns-in-len1-up-clause-written c = padded_text c.args.bytes.now _ c.requires c.in-len1-up.len_at_least c.write_from.ensures

pub returns-in-len1-up-clause-length : goal.returns-in-len1-up-clause-length
returns-in-len1-up-clause-length c = length_text c.args.bytes.now c.in-len1-up.len_at_least

pub returns-in-len1-up-clause-rules : goal.returns-in-len1-up-clause-rules
returns-in-len1-up-clause-rules c = text_is c.args.bytes.now c.requires
