-- What an owned message says.
use Rattle.std.specs.Prelude.{ℕ, List, map}
use Rattle.nd_message.specs.declared.name.Name.{Name}
use Rattle.nd_message.specs.declared.opt.Opt.{Opt}
use Rattle.nd_message.specs.declared.opt.Opt.TheVariants as opts
use Rattle.nd_message.specs.declared.message.Message.{Message}
use Rattle.nd_decode.specs.declared.body.Body.{Body}
use Rattle.nd_decode.specs.Option.{Said, slla, tlla, prefix, redirected, mtu, rdnss, dnssl, other}
use Rattle.nd_decode.specs.Message.{Parts}

-- a name without its allocator
abbrev pub labels_of : {A : Type 0} → Name A → List ℕ
labels_of name = name.0.items

-- an option without its allocator
abbrev pub said : {A : Type 0} → Opt A → Said
said (opts.Slla mac) = slla mac
said (opts.Tlla mac) = tlla mac
said (opts.Prefix p) = prefix p
said (opts.Redirected packet) = redirected packet.items
said (opts.Mtu n) = mtu n
said (opts.Rdnss lifetime servers) = rdnss lifetime servers.items
said (opts.Dnssl lifetime names) = dnssl lifetime (map labels_of names.items)
said (opts.Other kind rest) = other kind rest.items

-- fields and options, the options without their allocator
abbrev pub whole_of : {A : Type 0} → Body → List (Opt A) → Parts
whole_of body options = record { body = body; options = map said options }

-- a message without its allocator
abbrev pub whole : {A : Type 0} → Message A → Parts
whole m = whole_of m.body m.options.items
