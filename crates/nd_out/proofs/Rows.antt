-- The row of the parameters.
use Rattle.std.proofs.Common.{◌≡◌, ◌++◌, ℕ, Bool, List, ap, ◌∙◌, append_assoc}
use Rattle.std.specs.Prelude.{codes}
use Rattle.std.specs.Fmt.{decimal}
use Rattle.nd_params.specs.History.{managed_of, other_of}
use Rattle.nd_params.specs.ParamsKept.{Values, Stands}
use Rattle.nd_chronicle.specs.Happening.{Chronicle}
use Rattle.nd_chronicle.specs.Histories.{parameter_history}
use Rattle.nd_chronicle.specs.InForce.{hop_limit, link_mtu, base_reachable_time, reachable_time}
use Rattle.nd_chronicle.specs.Shown.{flag_text, parameter_row, times_text}
use Rattle.nd_out.specs.Parameters.{limits_in, times_in, flags_in, parameters_in}

-- four lists behind another one
four : (front a b c d : List ℕ) → front ++ (a ++ b ++ c ++ d) ≡ front ++ a ++ b ++ c ++ d
four front a b c d = simp append_assoc

limits_by : (v : Values) (c : Chronicle) → Stands v (parameter_history c) → limits_in v ≡ codes "params hop " ++ decimal (hop_limit c) ++ codes " mtu " ++ decimal (link_mtu c)
unfolding limits_in
limits_by v c s =
    ap (λ (n : ℕ). codes "params hop " ++ decimal n ++ codes " mtu " ++ decimal v.mtu) s.hop_limit
    ∙ ap (λ (n : ℕ). codes "params hop " ++ decimal (hop_limit c) ++ codes " mtu " ++ decimal n) s.mtu

times_by : (v : Values) (c : Chronicle) → Stands v (parameter_history c) → times_in v ≡ times_text c
unfolding times_in
times_by v c s =
    ap (λ (n : ℕ). codes " reachable " ++ decimal n ++ codes " " ++ decimal v.reachable_time ++ codes " retrans " ++ decimal v.retrans_timer) s.base_reachable_time
    ∙ ap (λ (n : ℕ). codes " reachable " ++ decimal (base_reachable_time c) ++ codes " " ++ decimal n ++ codes " retrans " ++ decimal v.retrans_timer) s.reachable_time
    ∙ ap (λ (n : ℕ). codes " reachable " ++ decimal (base_reachable_time c) ++ codes " " ++ decimal (reachable_time c) ++ codes " retrans " ++ decimal n) s.retrans_timer

flags_by : (v : Values) (c : Chronicle) → Stands v (parameter_history c) → flags_in v ≡ codes " managed " ++ flag_text (managed_of (parameter_history c)) ++ codes " other " ++ flag_text (other_of (parameter_history c))
unfolding flags_in
flags_by v c s =
    ap (λ (b : Bool). codes " managed " ++ flag_text b ++ codes " other " ++ flag_text v.other) s.managed
    ∙ ap (λ (b : Bool). codes " managed " ++ flag_text (managed_of (parameter_history c)) ++ codes " other " ++ flag_text b) s.other

-- the parameters by their history
pub parameters_are : (v : Values) (c : Chronicle) → Stands v (parameter_history c) → parameters_in v ≡ parameter_row c
parameters_are v c s =
    ap (λ (x : List ℕ). x ++ times_in v ++ flags_in v) (limits_by v c s)
    ∙ ap (λ (x : List ℕ). codes "params hop " ++ decimal (hop_limit c) ++ codes " mtu " ++ decimal (link_mtu c) ++ x ++ flags_in v) (times_by v c s)
    ∙ ap (λ (x : List ℕ). codes "params hop " ++ decimal (hop_limit c) ++ codes " mtu " ++ decimal (link_mtu c) ++ times_text c ++ x) (flags_by v c s)
    ∙ four (codes "params hop " ++ decimal (hop_limit c) ++ codes " mtu " ++ decimal (link_mtu c) ++ times_text c) (codes " managed ") (flag_text (managed_of (parameter_history c))) (codes " other ") (flag_text (other_of (parameter_history c)))
