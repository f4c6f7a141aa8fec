-- The earliest of some moments, and what isn't due before it.
use Rattle.std.proofs.Common.{◌≡◌, ℕ, ◌<◌, ◌≤◌, List, Option, Some, None, ap, arith, ⊎_elim}
use Rattle.std.proofs.lemmas.Bool.{cases_lt}
use Rattle.std.proofs.lemmas.Option.{none-some}
use Rattle.nd_table.specs.DueKept.{NotBefore}
use Rattle.nd_neighbour.specs.History as neighbours
use Rattle.nd_neighbour.specs.Due as neighbours_due
use Rattle.nd_slaac.specs.History as addresses
use Rattle.nd_slaac.specs.Due as addresses_due
use Rattle.nd_routers.specs.History as routers
use Rattle.nd_routers.specs.Due as routers_due
use Rattle.nd_node.specs.Moments.{earlier}
use Rattle.nd_node.specs.NodeKept.{earliest}

pub earlier_from : (now : ℕ) (o : Option ℕ) (n : ℕ) → NotBefore now o → now ≤ n → now ≤ earlier o n
earlier_from now None n h k = k
earlier_from now (Some m) n h k = omega arith

pub earlier_first : (now : ℕ) (o : Option ℕ) (n : ℕ) → now ≤ earlier o n → NotBefore now o
earlier_first now None n h = tt
earlier_first now (Some m) n h = omega arith

pub earlier_second : (now : ℕ) (o : Option ℕ) (n : ℕ) → now ≤ earlier o n → now ≤ n
earlier_second now None n h = h
earlier_second now (Some m) n h = omega arith

-- where the first isn't now, the second is
pub earlier_at : (now : ℕ) (o : Option ℕ) (n : ℕ) → now ≡ earlier o n → (o ≡ Some now → ⊥) → now ≡ n
earlier_at now None n is none = is
earlier_at now (Some m) n is none = ⊎_elim (λ lt. absurd (none (ap Some (omega arith)))) (λ ge. omega arith) (cases_lt m n)

-- what isn't due before the next date isn't due at an earlier moment
pub no_router : (history : List routers.RouterRow) (o : Option ℕ) (n moment : ℕ) → routers_due.NextDue history o → moment < earlier o n → routers_due.FirstDue history moment None
no_router history None n moment due lt = λ key is. due moment key is
no_router history (Some m) n moment due lt = λ key is. absurd (omega (arith, due.1 moment key is))

pub no_address : (transmits : ℕ) (history : List addresses.Row) (o : Option ℕ) (n moment : ℕ) → addresses_due.NextDue transmits history o → moment < earlier o n → addresses_due.FirstDue transmits history moment None
no_address transmits history None n moment due lt = λ falls is. due moment falls is
no_address transmits history (Some m) n moment due lt = λ falls is. absurd (omega (arith, due.1 moment falls is))

pub no_neighbour : (history : List neighbours.Row) (o : Option ℕ) (n moment : ℕ) → neighbours_due.NextDue history o → moment < earlier o n → neighbours_due.FirstDue history moment None
no_neighbour history None n moment due lt = λ key is. due moment key is
no_neighbour history (Some m) n moment due lt = λ key is. absurd (omega (arith, due.1 moment key is))

pub none_at : (moment : ℕ) (o : Option ℕ) (n : ℕ) → moment < earlier o n → o ≡ Some moment → ⊥
none_at moment None n h is = none-some moment is
none_at moment (Some m) n h is = let e : m ≡ moment = cc in omega arith

pub before_second : (moment : ℕ) (o : Option ℕ) (n : ℕ) → moment < earlier o n → moment < n
before_second moment None n h = h
before_second moment (Some m) n h = omega arith

module _ (now : ℕ) (r a n s v : Option ℕ) (d : ℕ) where
  pub none_before : NotBefore now r → NotBefore now a → NotBefore now n → NotBefore now s → NotBefore now v → now ≤ d → now ≤ earliest r a n s v d
  none_before hr ha hn hs hv hd =
      earlier_from now r (earlier a (earlier n (earlier s (earlier v d)))) hr (earlier_from now a (earlier n (earlier s (earlier v d))) ha
      (earlier_from now n (earlier s (earlier v d)) hn (earlier_from now s (earlier v d) hs (earlier_from now v d hv hd))))

  module _ (h : now ≤ earliest r a n s v d) where
    after_routers : now ≤ earlier a (earlier n (earlier s (earlier v d)))
    after_routers = earlier_second now r (earlier a (earlier n (earlier s (earlier v d)))) h

    after_addresses : now ≤ earlier n (earlier s (earlier v d))
    after_addresses = earlier_second now a (earlier n (earlier s (earlier v d))) after_routers

    after_neighbours : now ≤ earlier s (earlier v d)
    after_neighbours = earlier_second now n (earlier s (earlier v d)) after_addresses

    after_solicitation : now ≤ earlier v d
    after_solicitation = earlier_second now s (earlier v d) after_neighbours

    pub before_routers : NotBefore now r
    before_routers = earlier_first now r (earlier a (earlier n (earlier s (earlier v d)))) h

    pub before_addresses : NotBefore now a
    before_addresses = earlier_first now a (earlier n (earlier s (earlier v d))) after_routers

    pub before_neighbours : NotBefore now n
    before_neighbours = earlier_first now n (earlier s (earlier v d)) after_addresses

    pub before_solicitation : NotBefore now s
    before_solicitation = earlier_first now s (earlier v d) after_neighbours

    pub before_advertisement : NotBefore now v
    before_advertisement = earlier_first now v d after_solicitation

    pub before_redraw : now ≤ d
    before_redraw = earlier_second now v d after_solicitation

  -- where no table has something due now, a Router Solicitation, a Router Advertisement or the redraw is
  pub at_solicitation : now ≡ earliest r a n s v d → (r ≡ Some now → ⊥) → (a ≡ Some now → ⊥) → (n ≡ Some now → ⊥) → now ≡ earlier s (earlier v d)
  at_solicitation is hr ha hn =
      earlier_at now n (earlier s (earlier v d)) (earlier_at now a (earlier n (earlier s (earlier v d))) (earlier_at now r (earlier a (earlier n (earlier s (earlier v d)))) is hr) ha) hn

  pub at_redraw : now ≡ earliest r a n s v d → (r ≡ Some now → ⊥) → (a ≡ Some now → ⊥) → (n ≡ Some now → ⊥) → (s ≡ Some now → ⊥) → (v ≡ Some now → ⊥) → now ≡ d
  at_redraw is hr ha hn hs hv = earlier_at now v d (earlier_at now s (earlier v d) (at_solicitation is hr ha hn) hs) hv
