use Rattle.std.proofs.Common.{◌≡◌, ◌++◌}
use Rattle.std.specs.Prelude.{string_bytes}
use Rattle.std.specs.List.{flat_map}
use Rattle.nd_decode.specs.ServersKept.{servers_left}
use Rattle.ndpctl_check.specs.OptionText.{server_text}
use Rattle.ndpctl_check.proofs.option_text.write_each_server.Given as goal

abbrev pub invariant-loop-server : goal.invariant-loop-server
invariant-loop-server g l =
    string_bytes l.text ++ flat_map server_text (servers_left l.server-iterator) ≡ string_bytes l.fn.text ++ flat_map server_text (servers_left l.initial.server-iterator)
