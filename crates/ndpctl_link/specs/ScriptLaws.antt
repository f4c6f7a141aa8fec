-- What holds of lines that lead a link nowhere, for the laws of what answers lines.
use Rattle.std.specs.Prelude.{◌<◌, ℕ, List, [], length, refl}
use Rattle.std.proofs.Common.{sym, append-nil, arith}
use Rattle.std.proofs.lemmas.List.Elements.{All-nil}
use Rattle.rand_core.specs.Stream.{Stream}
use Rattle.ndpctl_run.specs.Said.{SaysNothing, stops}
use Rattle.nd_lines.specs.Answers.{EndsWell, IsMalformed}
use Rattle.nd_lines.specs.Lines.{longest_line}
use Rattle.nd_link_log.specs.Bytes.{IsOfBytes}
use Rattle.nd_link_log.specs.Event.{Event}
use Rattle.nd_link_log.specs.Told.{text}
use Rattle.nd_link.specs.declared.link.Link.{Link}
use Rattle.ndpctl_link.specs.ScriptKept.{Leads}
use Rattle.ndpctl_link.specs.Line.{IsLinkLine}

module _ {W R A : Type 0} (arrives : ℕ → List ℕ → List ℕ → Type 0) (stream : R → Stream) (link : Link W R A) where
  -- no line leads nowhere
  pub no_line : EndsWell (Leads arrives stream link link)
  no_line n = record {
    each = λ faithful log s. record {
      on = record { said = []; say = (refl, refl); end = log; runs = refl; text_is = sym (append-nil (text log)) };
      bytes = All-nil (λ (event : ℕ × Event). IsOfBytes event.1);
      stands = s;
    };
  }

  -- a malformed line leads nowhere
  pub malformed_line : (line : List ℕ) → SaysNothing IsLinkLine line → IsMalformed (Leads arrives stream link link) line
  malformed_line line nothing n lines =
      record {
        each = λ faithful log s. record {
          on = record { said = []; say = stops nothing; end = log; runs = refl; text_is = sym (append-nil (text log)) };
          bytes = All-nil (λ (event : ℕ × Event). IsOfBytes event.1);
          stands = s;
        };
      }

  -- a line that is too long is malformed
  pub long_line : (line : List ℕ) → longest_line < length line → IsMalformed (Leads arrives stream link link) line
  long_line line long = malformed_line line (λ at event says. absurd (omega (arith, long, says.short)))
