use Rattle.std.proofs.Common.{sym, ap, ◌∙◌, ℕ, eqb}
use Rattle.nd_addr.proofs.Numbers.{first_byte}
use Rattle.nd_addr.proofs.laws.multicast_by_first_byte.Goals as goal

pub returns-clause-says : goal.returns-clause-says
returns-clause-says c = λ address h. (λ e. sym (first_byte address h.len_is h.each) ∙ e, λ e. first_byte address h.len_is h.each ∙ e)

pub returns-clause-exactly : goal.returns-clause-exactly
returns-clause-exactly c = λ address h. ap (λ (n : ℕ). eqb n 255) (first_byte address h.len_is h.each)
