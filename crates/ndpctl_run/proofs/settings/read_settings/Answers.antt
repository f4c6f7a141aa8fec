use Rattle.std.proofs.Common.{◌≡◌, ◌∙◌, ℕ, ◌^◌, Some, None, List, [], ◌∷◌, sym, ap, subst}
use Rattle.std.specs.Prelude.{IfSome, Option}
use Rattle.std.specs.Result.{result_ok}
use Rattle.nd_advertiser.specs.Config.{Settings, config_fault, unless}
use Rattle.ndpctl_run.specs.Number.{IsNumberOr}
use Rattle.ndpctl_run.specs.Settings.{AreSettings, SpellSettings, default_lifetime}
use Rattle.ndpctl_run.specs.Words.{words_of}
use Rattle.ndpctl_run.proofs.Faults.{if_made, made, short_lifetime}
use Rattle.ndpctl_run.proofs.SettingsWords.{are_settings, one_spelled, spelled_at}
use Rattle.ndpctl_run.proofs.settings.read_settings.Goals as goal

pub returns-in_err-max_interval-clause-only : goal.returns-in_err-max_interval-clause-only
returns-in_err-max_interval-clause-only c = λ settings are.
    let spelled = spelled_at c.args.text.now _ settings c.in_ok-words.ensures.found are in
    let none = c.in_err-max_interval.ensures.only settings.max_interval spelled.1 in
    cc

pub returns-in_err-lifetime-clause-only : goal.returns-in_err-lifetime-clause-only
returns-in_err-lifetime-clause-only c = λ settings are.
    let spelled = spelled_at c.args.text.now _ settings c.in_ok-words.ensures.found are in
    let same = c.in_ok-max_interval.ensures.only settings.max_interval spelled.1 in
    let max_is : settings.max_interval ≡ c.in_ok-max_interval.max_interval = cc in
    let theirs = subst (λ (max : ℕ). IsNumberOr (default_lifetime max) (2 ^ 16) c.in_ok-words.words.lifetime.now settings.fields.router_lifetime) max_is spelled.2 in
    let none = c.in_err-lifetime.ensures.only settings.fields.router_lifetime (short_lifetime settings are.right) theirs in
    cc

-- what was read, whether it breaks a rule or not
read : goal.After-ok → Settings
read c = record {
  min_interval = c.in_ok-min_interval.min_interval;
  max_interval = c.in_ok-max_interval.max_interval;
  fields = record {
    hop_limit = c.in_ok-hop_limit.hop_limit;
    managed = c.in_ok-managed.managed;
    other = c.in_ok-managed.other;
    preference = c.in_ok-managed.preference;
    router_lifetime = c.in_ok-lifetime.lifetime;
    reachable_time = c.in_ok-reachable_time.reachable_time;
    retrans_timer = c.in_ok-retrans_timer.retrans_timer;
  };
  mtu = c.in_ok-mtu.mtu;
}

words : goal.After-ok → List (List ℕ)
words c =
    let w = c.in_ok-words.words in
    w.min.now ∷ w.max.now ∷ w.lifetime.now ∷ w.hop_limit.now ∷ w.flags.now ∷ w.reachable.now ∷ w.retrans.now ∷ w.mtu.now ∷ []

spelled : (c : goal.After-ok) → SpellSettings (words c) (read c)
unfolding words read
spelled c = (
  c.in_ok-min_interval.ensures.found,
  c.in_ok-max_interval.ensures.found,
  c.in_ok-lifetime.ensures.found,
  c.in_ok-hop_limit.ensures.found,
  c.in_ok-managed.ensures.found,
  c.in_ok-reachable_time.ensures.found,
  c.in_ok-retrans_timer.ensures.found,
  c.in_ok-mtu.ensures.found,
)

made_of : (c : goal.After-ok) → c.ok.result ≡ result_ok (unless (config_fault (read c)) (read c))
unfolding read
made_of c = c.ok.ensures.value ∙ ap result_ok c.new.ensures

words_are : (c : goal.After-ok) → words_of c.args.text.now ≡ words c
unfolding words
words_are c = c.in_ok-words.ensures.found

pub returns-clause-found : goal.returns-clause-found
returns-clause-found c =
    let text = c.args.text.now in
    let right = if_made (config_fault (read c)) (read c) (AreSettings text) (are_settings text (words c) (read c) (words_are c) (spelled c)) in
    subst (λ (o : Option Settings). IfSome o (AreSettings text)) (sym (made_of c)) right

pub returns-clause-only : goal.returns-clause-only
returns-clause-only c = λ settings are.
    let same = one_spelled (words c) settings (read c) (spelled_at c.args.text.now (words c) settings (words_are c) are) (spelled c) in
    let right = subst (λ (s : Settings). config_fault s ≡ None) same are.right in
    made_of c ∙ made (config_fault (read c)) (read c) right ∙ ap (λ (s : Settings). Some s) (sym same)
