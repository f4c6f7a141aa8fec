-- Settings are determined by their words.
use Rattle.std.proofs.Common.{◌≡◌, ◌∙◌, ◌^◌, ℕ, Bool, List, [], ◌∷◌, None, refl, sym, subst, arith}
use Rattle.nd_addr.specs.declared.preference.Preference.{Preference}
use Rattle.nd_advertiser.specs.Config.{Settings, config_fault}
use Rattle.ndpctl_run.specs.Number.{IsNumberOr}
use Rattle.ndpctl_run.specs.Settings.{AreSettings, SpellSettings, default_lifetime}
use Rattle.ndpctl_run.specs.Words.{words_of}
use Rattle.ndpctl_run.proofs.FlagsWords.{one_router_flags}
use Rattle.ndpctl_run.proofs.NumberWords.{one_number, one_number_or}

-- settings by their values
settings_of : ℕ → ℕ → ℕ → ℕ → Bool → Bool → Preference → ℕ → ℕ → ℕ → Settings
settings_of min max lifetime hop_limit managed other preference reachable retrans mtu = record {
  min_interval = min;
  max_interval = max;
  fields = record { hop_limit = hop_limit; managed = managed; other = other; preference = preference; router_lifetime = lifetime; reachable_time = reachable; retrans_timer = retrans };
  mtu = mtu;
}

of_values : (s : Settings)
    → s ≡ settings_of s.min_interval s.max_interval s.fields.router_lifetime s.fields.hop_limit s.fields.managed s.fields.other s.fields.preference s.fields.reachable_time s.fields.retrans_timer s.mtu
unfolding settings_of
of_values s = refl

pub one_spelled : (words : List (List ℕ)) (s t : Settings) → SpellSettings words s → SpellSettings words t → s ≡ t
one_spelled (min ∷ max ∷ lifetime ∷ hop_limit ∷ flags ∷ reachable ∷ retrans ∷ mtu ∷ []) s t p q =
    let min_is = one_number (2 ^ 16) (omega arith) min s.min_interval t.min_interval p.0 q.0 in
    let max_is = one_number_or 600 (2 ^ 16) (omega arith) max s.max_interval t.max_interval p.1 q.1 in
    let theirs = subst (λ (n : ℕ). IsNumberOr (default_lifetime n) (2 ^ 16) lifetime t.fields.router_lifetime) (sym max_is) q.2 in
    let lifetime_is = one_number_or (default_lifetime s.max_interval) (2 ^ 16) (omega arith) lifetime s.fields.router_lifetime t.fields.router_lifetime p.2 theirs in
    let hop_limit_is = one_number (2 ^ 8) (omega arith) hop_limit s.fields.hop_limit t.fields.hop_limit p.3 q.3 in
    let flags_are = one_router_flags flags s.fields.managed s.fields.other t.fields.managed t.fields.other s.fields.preference t.fields.preference p.4 q.4 in
    let managed_is = flags_are.0 in
    let other_is = flags_are.1 in
    let preference_is = flags_are.2 in
    let reachable_is = one_number (2 ^ 32) (omega arith) reachable s.fields.reachable_time t.fields.reachable_time p.5 q.5 in
    let retrans_is = one_number (2 ^ 32) (omega arith) retrans s.fields.retrans_timer t.fields.retrans_timer p.6 q.6 in
    let mtu_is = one_number (2 ^ 32) (omega arith) mtu s.mtu t.mtu p.7 q.7 in
    of_values s ∙ (rw (min_is, max_is, lifetime_is, hop_limit_is, managed_is, other_is, preference_is, reachable_is, retrans_is, mtu_is) (sym (of_values t)))
one_spelled _ s t p q = absurd p

pub one_settings : (text : List ℕ) (s t : Settings) → AreSettings text s → AreSettings text t → s ≡ t
one_settings text s t p q = one_spelled (words_of text) s t p.spelled q.spelled

-- ---- what is made of settings

pub spelled_at : (text : List ℕ) (words : List (List ℕ)) (s : Settings) → words_of text ≡ words → AreSettings text s → SpellSettings words s
spelled_at text words s e are = subst (λ (ws : List (List ℕ)). SpellSettings ws s) e are.spelled

pub are_settings : (text : List ℕ) (words : List (List ℕ)) (s : Settings) → words_of text ≡ words → SpellSettings words s → config_fault s ≡ None → AreSettings text s
are_settings text words s e spelled right = record { spelled = subst (λ (ws : List (List ℕ)). SpellSettings ws s) (sym e) spelled; right = right }
