-- What is written for what is asked.
use Rattle.std.specs.Prelude.{◌≡◌, ℕ, List, None}
use Rattle.nd_lines.specs.Answers.{Fronts, Texts, Only, Wholly}
use Rattle.nd_lines.specs.Each.{text_of_each, malformed_of_each}
use Rattle.ndpctl_check.specs.Check.{answer_to}
use Rattle.ndpctl_run.specs.Line.{IsLine}
use Rattle.ndpctl_run.specs.Said.{SaysNothing}
use Rattle.ndpctl_run.specs.Script.{IsFront, IsText}
use Rattle.ndpctl_run.specs.Start.{start_of}
use Rattle.nd_random.specs.Source.{stream_of_source}
use Rattle.ndpctl_args.specs.declared.asked.Asked.{Asked}
use Rattle.ndpctl_args.specs.declared.asked.Asked.TheVariants.{Check, Run, Link}
use Rattle.ndpctl_args.specs.declared.asked.Carrier.TheVariants.{Udp}
use Rattle.ndpctl_link.specs.Line.{IsLinkLine}
use Rattle.ndpctl_link.specs.Script.{IsLinkText}

-- Which text the lines of the input have: of `check`, what each frame is; of `run`, the text of the chronicle of what they say to a node of
-- the role; of `link`, that of the log of what they say.
abbrev pub texts_asked : Asked → Texts
texts_asked Check = Only (text_of_each answer_to) (malformed_of_each answer_to)
texts_asked (Run options) =
    IsText (start_of options (stream_of_source options.generator))
texts_asked (Link carrier) = IsLinkText

-- the texts of the first few of its lines, a run of a node's with a beginning of the answer to the next line behind them
abbrev pub fronts_asked : Asked → Fronts
fronts_asked Check = Wholly (texts_asked Check)
fronts_asked (Run options) =
    IsFront (start_of options (stream_of_source options.generator))
fronts_asked (Link carrier) = Wholly IsLinkText

-- which of its lines are malformed
abbrev pub is_malformed_asked : Asked → List ℕ → Type 0
is_malformed_asked Check = λ line. answer_to line ≡ None
is_malformed_asked (Run options) = SaysNothing IsLine
is_malformed_asked (Link carrier) = SaysNothing IsLinkLine

-- the text is claimed: that of a link over datagrams isn't
abbrev pub IsClaimed : Asked → Type 0
IsClaimed (Link Udp) = ⊥
IsClaimed _ = Unit {0}
