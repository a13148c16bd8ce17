-- A wire with one text a line: what it shows as a wire, and what each call does to its source and its sink.
use Rattle.std.specs.Prelude.{◌≡◌, ℕ, ◌+◌, List, [], ◌∷◌, ◌++◌, None, Result, Ok, Err, true, false, ⊤, ◌⊎◌, if◌then◌else◌}
use Rattle.std.specs.Option.{option_map}
use Rattle.fluid_io.specs.declared.line.LineFault.TheVariants.{NotUtf8, TooMany}
use Rattle.fluid_io.specs.Causes.{Rose, one_more}
use Rattle.fluid_io.specs.Lines.{ahead, lines_ahead, AnswersBytes}
use Rattle.fluid_io.specs.Reader.{Reader}
use Rattle.fluid_io.specs.Streams.{Reading, Writing, Appends, AppendsPrefix}
use Rattle.fluid_lines.specs.declared.wire.Recv.{Recv}
use Rattle.fluid_lines.specs.declared.wire.Recv.TheVariants.{Text, Quiet, End, TooLong}
use Rattle.fluid_lines.specs.declared.wire.WireFault.{WireFault}
use Rattle.fluid_lines.specs.declared.wire.WireFault.TheVariants.{Failed, NoMemory}
use Rattle.fluid_lines.specs.Wires.{Wiring}

pub record LineWiring : Type 0 where
  -- the reader of its lines, and the source and the sink
  pub reader : Reader
  pub source : Reading
  pub sink : Writing
  -- how many faults it counted
  pub faults : ℕ

-- the texts to come are the lines before its reader, and none behind a fault; it tells no history, and is never quiet
abbrev pub lined_seen : LineWiring → Wiring
lined_seen w = record {
  history = None;
  texts = if w.reader.failed then option_map (λ lines. []) (lines_ahead w.reader w.source) else lines_ahead w.reader w.source;
  quiets = 0;
  faults = w.faults;
}

-- why a receive failed: the source did, or the next line is no text or one line too many
abbrev pub HasLineCause : LineWiring → LineWiring → Result Recv WireFault → Type 0
HasLineCause old new (Ok answer) = ⊤
HasLineCause old new (Err NoMemory) = ⊤
HasLineCause old new (Err Failed) =
    (Rose old.source.faults new.source.faults)
    ⊎ (AnswersBytes old.reader (ahead old.reader old.source) (Err (NotUtf8 (old.reader.count + 1)))
    ⊎ AnswersBytes old.reader (ahead old.reader old.source) (Err (TooMany (old.reader.count + 1))))

-- a count of faults after an answer: it goes up with each answer `Failed`, and only then
abbrev pub faults_after : {A : Type 0} → ℕ → Result A WireFault → ℕ
faults_after faults (Ok answer) = faults
faults_after faults (Err Failed) = one_more faults
faults_after faults (Err NoMemory) = faults

-- what a send wrote: the text and a line feed, or a part from their front where the sink failed
abbrev pub SendsLine : LineWiring → LineWiring → List ℕ → Result (Unit {0}) WireFault → Type 0
SendsLine old new text (Ok done) = Appends (text ++ 10 ∷ []) old.sink.written new.sink.written
SendsLine old new text (Err Failed) = AppendsPrefix (text ++ 10 ∷ []) old.sink.written new.sink.written × Rose old.sink.faults new.sink.faults
SendsLine old new text (Err NoMemory) = ⊥

-- behind a fault, and behind a line that is too long, its reader has failed, so that only the end comes
abbrev pub EndsBehind : LineWiring → Result Recv WireFault → Type 0
EndsBehind new (Ok (Text text)) = new.reader.failed ≡ false
EndsBehind new (Ok Quiet) = ⊥
EndsBehind new (Ok End) = ⊤
EndsBehind new (Ok (TooLong size)) = new.reader.failed ≡ true
EndsBehind new (Err fault) = new.reader.failed ≡ true
