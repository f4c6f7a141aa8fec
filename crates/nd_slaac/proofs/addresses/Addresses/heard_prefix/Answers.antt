use Rattle.std.proofs.Common.{◌∙◌, ap, sym}
use Rattle.nd_slaac.specs.TableKept.{Table}
use Rattle.nd_slaac.proofs.HeardPrefix.{gains_heard, comes_heard, fits_heard, keys_heard, room_heard, story_heard}
use Rattle.nd_slaac.proofs.addresses.Addresses.heard_prefix.Goals as goal

pub returns-clause-gains : goal.returns-clause-gains
returns-clause-gains g c =
    gains_heard c.args.now c.args.info.now c.args.delay c.args.retrans _ c.take.result c.args.self.now _ _ _ _
    (ap (λ (t : Table). t.limit) c.self.view_is) (ap (λ (t : Table). t.mac) c.self.view_is) (ap (λ (t : Table). t.addresses) c.self.view_is) c.named_by-addr.ensures c.take.ensures.changes

pub returns-clause-fits : goal.returns-clause-fits
returns-clause-fits g c =
    fits_heard c.args.now c.args.info.now c.args.delay c.args.retrans _ c.take.result c.args.self.now _ _ _ _
    (ap (λ (t : Table). t.limit) c.self.view_is) (ap (λ (t : Table). t.mac) c.self.view_is) (ap (λ (t : Table). t.addresses) c.self.view_is) c.named_by-addr.ensures c.take.ensures.changes
    (sym c.is_taken.ensures ∙ c.if-not-is_taken.false) c.take.ensures.value

pub returns-clause-room : goal.returns-clause-room
returns-clause-room g c =
    room_heard c.args.now c.args.info.now c.args.delay c.args.retrans _ c.take.result c.args.self.now _ _ _ _
    (ap (λ (t : Table). t.limit) c.self.view_is) (ap (λ (t : Table). t.mac) c.self.view_is) (ap (λ (t : Table). t.addresses) c.self.view_is) c.named_by-addr.ensures c.take.ensures.changes
    (sym c.is_taken.ensures ∙ c.if-not-is_taken.false) c.take.ensures.value

pub returns-clause-comes : goal.returns-clause-comes
returns-clause-comes g c =
    comes_heard c.args.now c.args.info.now c.args.delay c.args.retrans _ c.take.result c.args.self.now _ _ _ _
    (ap (λ (t : Table). t.limit) c.self.view_is) (ap (λ (t : Table). t.mac) c.self.view_is) (ap (λ (t : Table). t.addresses) c.self.view_is) c.named_by-addr.ensures c.take.ensures.changes
    c.take.ensures.value

pub returns-clause-keys : goal.returns-clause-keys
returns-clause-keys g c =
    keys_heard c.args.now c.args.info.now c.args.delay c.args.retrans _ c.take.result c.args.self.now _ _ _ _
    (ap (λ (t : Table). t.limit) c.self.view_is) (ap (λ (t : Table). t.mac) c.self.view_is) (ap (λ (t : Table). t.addresses) c.self.view_is) c.named_by-addr.ensures c.take.ensures.changes
    (sym c.is_taken.ensures ∙ c.if-not-is_taken.false) c.take.ensures.value

pub returns-clause-story : goal.returns-clause-story
returns-clause-story g c =
    story_heard c.args.now c.args.info.now c.args.delay c.args.retrans _ c.take.result c.args.self.now _ _ _ _
    (ap (λ (t : Table). t.limit) c.self.view_is) (ap (λ (t : Table). t.mac) c.self.view_is) (ap (λ (t : Table). t.addresses) c.self.view_is) c.named_by-addr.ensures c.take.ensures.changes
    (sym c.is_taken.ensures ∙ c.if-not-is_taken.false) c.take.ensures.value

pub returns-clause-by_history : goal.returns-clause-by_history
returns-clause-by_history g c = λ history s. record { known = c.args.self.now.addresses; those = s; taken_is = returns-clause-story g c history s }
