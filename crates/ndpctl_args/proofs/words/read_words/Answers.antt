use Rattle.std.proofs.Common.{rules, ◌≡◌, ◌∙◌, ℕ, List, [], ◌∷◌, refl, sym, ap, subst, map, codes, true, true≢false, Bor, ⊎_elim}
use Rattle.std.specs.Prelude.{string_bytes}
use Rattle.std.proofs.lemmas.Result.{IfOk-weaker, IfErr-weaker}
use Rattle.clap.specs.Words.{App, HasKind, fault_of, first_of, found_of, is_simple_and_free, rows_of}
use Rattle.ndpctl_args.specs.CommandLine.{Names, Refuses, carrier_named}
use Rattle.ndpctl_args.proofs.Matches.{same_name, same_given, asks, refuses}
use Rattle.ndpctl_args.proofs.words.read_words.Goals as goal

abbrev names_at : (roles wires : Bor (List (Bor (List ℕ)))) → map (λ name. name.now) roles.now ≡ codes "host" ∷ codes "router" ∷ [] → map (λ name. name.now) wires.now ≡ codes "memory" ∷ codes "udp" ∷ [] → Names
names_at roles wires roles_are wires_are = record { roles = roles; roles_are = roles_are; wires = wires; wires_are = wires_are }

pub returns-in-Err-clause-wrong : goal.returns-in-Err-clause-wrong
returns-in-Err-clause-wrong c =
    let words = map (λ word. string_bytes word) c.args.words.now in
    let kinds = subst (λ (a : App). is_simple_and_free a ≡ true → HasKind (fault_of a words) c.in-Err.error) c.in-Ok.ensures c.in-Err.ensures.kinds refl in
    let names = names_at c.as_slice.result c.as_slice-2.result (search rules) (search rules) in
    ⊎_elim
    (λ m. subst (Refuses words) (sym m.1) tt)
    (λ t. subst (Refuses words) (sym t.1) (names, record { among = ⊎_elim (λ m. absurd (t.0 m)) (λ a. a) kinds; not_memory = t.0 }))
    c.of_error.ensures

pub returns-in-Some-clause-right : goal.returns-in-Some-clause-right
returns-in-Some-clause-right c =
    let words = map (λ word. string_bytes word) c.args.words.now in
    let names = names_at c.as_slice.result c.as_slice-2.result (search rules) (search rules) in
    let parse = c.in-Ok-try_get_matches_from in
    let faultless = subst (λ (a : App). is_simple_and_free a ≡ true → fault_of a words ≡ []) c.in-Ok.ensures parse.ensures.kinds refl in
    let named = sym (same_name names words c.in-Ok.command parse.matches c.in-Ok.ensures parse.ensures.matches) ∙ c.in-Some.ensures.found.0 refl in
    let given = same_given names words c.in-Ok.command parse.matches c.in-Ok.ensures parse.ensures.matches (rows_of (found_of c.in-Some.given.now)) c.in-Some.ensures.rows in
    IfOk-weaker c.read_run.result _ _ (asks names words (rows_of (found_of c.in-Some.given.now)) faultless named given) c.read_run.ensures.right

pub returns-in-Some-clause-wrong : goal.returns-in-Some-clause-wrong
returns-in-Some-clause-wrong c =
    let words = map (λ word. string_bytes word) c.args.words.now in
    let names = names_at c.as_slice.result c.as_slice-2.result (search rules) (search rules) in
    let parse = c.in-Ok-try_get_matches_from in
    let faultless = subst (λ (a : App). is_simple_and_free a ≡ true → fault_of a words ≡ []) c.in-Ok.ensures parse.ensures.kinds refl in
    let named = sym (same_name names words c.in-Ok.command parse.matches c.in-Ok.ensures parse.ensures.matches) ∙ c.in-Some.ensures.found.0 refl in
    let given = same_given names words c.in-Ok.command parse.matches c.in-Ok.ensures parse.ensures.matches (rows_of (found_of c.in-Some.given.now)) c.in-Some.ensures.rows in
    IfErr-weaker c.read_run.result _ _ (refuses names words (rows_of (found_of c.in-Some.given.now)) faultless named given) c.read_run.ensures.wrong

pub returns-in-Some-subcommand_matches-clause-right : goal.returns-in-Some-subcommand_matches-clause-right
returns-in-Some-subcommand_matches-clause-right c =
    let words = map (λ word. string_bytes word) c.args.words.now in
    let names = names_at c.as_slice.result c.as_slice-2.result (search rules) (search rules) in
    let parse = c.in-Ok-try_get_matches_from in
    let link = c.in-Some-subcommand_matches in
    record {
      names = names;
      faultless = subst (λ (a : App). is_simple_and_free a ≡ true → fault_of a words ≡ []) c.in-Ok.ensures parse.ensures.kinds refl;
      asked = (
        sym (same_name names words c.in-Ok.command parse.matches c.in-Ok.ensures parse.ensures.matches) ∙ link.ensures.found.0 refl,
        c.read_wire.ensures
            ∙ ap (λ rows. carrier_named (first_of (codes "wire") rows)) (same_given names words c.in-Ok.command parse.matches c.in-Ok.ensures parse.ensures.matches (rows_of (found_of link.given.now)) link.ensures.rows),
      );
    }

pub returns-clause-right : goal.returns-clause-right
returns-clause-right c =
    let words = map (λ word. string_bytes word) c.args.words.now in
    let names = names_at c.as_slice.result c.as_slice-2.result (search rules) (search rules) in
    let parse = c.in-Ok-try_get_matches_from in
    let name = same_name names words c.in-Ok.command parse.matches c.in-Ok.ensures parse.ensures.matches in
    record {
      names = names;
      faultless = subst (λ (a : App). is_simple_and_free a ≡ true → fault_of a words ≡ []) c.in-Ok.ensures parse.ensures.kinds refl;
      asked = (
        λ run. true≢false (sym (c.in_default-subcommand_matches.ensures.found.1 (name ∙ run))),
        λ link. true≢false (sym (c.in-None.ensures.found.1 (name ∙ link))),
      );
    }
