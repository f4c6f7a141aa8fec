use Rattle.std.proofs.Common.{◌≡◌, ◌∙◌, ℕ, List, ◌∷◌, ◌++◌, [], sym, ap, subst, arith}
use Rattle.std.specs.Prelude.{IfOk, map, take}
use Rattle.nd_decode.specs.Option.{Said, redirected}
use Rattle.nd_decode.specs.declared.body.Body.TheVariants as bodies
use Rattle.nd_message.specs.Fitting.{FitsRedirected}
use Rattle.nd_message.specs.Frame.{message_frame}
use Rattle.nd_message.specs.Owned.{said}
use Rattle.nd_message.specs.WellFormed.{IsWellFormed}
use Rattle.nd_message.specs.declared.opt.Opt.TheVariants.{Redirected}
use Rattle.nd_compose.specs.Frames.{open_mac}
use Rattle.nd_compose.specs.Redirect.{padded, target_options}
use Rattle.nd_compose.proofs.Redirects.{options_behind, quoted_fits, redirect_formed}
use Rattle.nd_compose.proofs.redirect.redirect_frame.Goals as goal

pub message_frame-requires : goal.message_frame-requires
message_frame-requires g c =
    let quoted : List ℕ = c.in_ok-quoted.quoted.items in
    let said_is : map said c.deref.result.now ≡ target_options c.args.target_mac ++ redirected quoted ∷ [] =
    options_behind c.in_ok-options.options.items c.deref.result.now (target_options c.args.target_mac) (Redirected c.in_ok-quoted.quoted) c.in_ok-options.ensures (c.deref.ensures.value ∙ c.in_ok-push.ensures.items) in
    let fits : FitsRedirected quoted = subst FitsRedirected (sym c.in_ok-quoted.ensures) (quoted_fits c.most_quoted.result c.args.packet.now c.most_quoted.ensures.most (λ i. omega (arith, c.type_inv.packet i))) in
    subst (λ (os : List Said). IsWellFormed (record { body = bodies.Redirect c.args.redirect; options = os })) (sym said_is)
    (redirect_formed c.args.redirect.target c.args.redirect.destination quoted c.are_bytes.ensures.address c.are_bytes-2.ensures.address fits c.args.target_mac c.most_quoted.ensures.bytes)

pub returns : goal.returns
returns g c =
    let said_is : map said c.deref.result.now ≡ target_options c.args.target_mac ++ redirected c.in_ok-quoted.quoted.items ∷ [] =
    options_behind c.in_ok-options.options.items c.deref.result.now (target_options c.args.target_mac) (Redirected c.in_ok-quoted.quoted) c.in_ok-options.ensures (c.deref.ensures.value ∙ c.in_ok-push.ensures.items) in
    let quoted_is = c.in_ok-quoted.ensures ∙ ap (λ (n : ℕ). padded (take n c.args.packet.now)) c.most_quoted.ensures.value in
    subst (λ (os : List Said). IfOk c.message_frame.result (λ frame. frame ≡ message_frame open_mac c.args.mac c.args.source c.args.to (record { body = bodies.Redirect c.args.redirect; options = os })))
    (said_is ∙ ap (λ (q : List ℕ). target_options c.args.target_mac ++ redirected q ∷ []) quoted_is) c.message_frame.ensures
