-- Parts of the text of a checkpoint, for private clauses.
use Rattle.std.specs.Prelude.{ℕ, List, [], ◌++◌, unwrap_or, codes}
use Rattle.std.specs.FinMap.{entries}
use Rattle.fluid_json.specs.Printed.{printed}
use Rattle.fluid_types.specs.Blobs.{list_tree}
use Rattle.fluid_types.specs.Printed.{count_tree, message_tree}
use Rattle.fluid_types.specs.declared.quorum.QuorumBlob.{QuorumBlob}
use Rattle.fluid_tree.specs.Summary.{Summary}
use Rattle.fluid_quorum.specs.Reading.{text_in}
use Rattle.fluid_checkpoint.specs.declared.state.State.{State}
use Rattle.fluid_checkpoint.specs.declared.version.Version.TheVariants.{Two}
use Rattle.fluid_checkpoint.specs.Text.{version_number, ack_tree, base_tree, client_tree, moment_tree, change_tree}

-- the text of a blob; none where the tree has none
abbrev pub content : Summary → QuorumBlob → List ℕ
content t b = unwrap_or (text_in t b) []

-- the members before the numbers, with the bracket before them
unfoldable pub first_part : State → List ℕ
first_part s =
    codes "{\"acks\":" ++ (printed (list_tree ack_tree s.scribe.acks)
    ++ (codes ",\"base\":" ++ (printed (base_tree s.scribe.base)
    ++ (codes ",\"behind\":" ++ (printed (list_tree message_tree s.scribe.behind)
    ++ (codes ",\"clients\":" ++ printed (list_tree client_tree (entries s.sequencer.rows))))))))

-- those from the numbers to the changes of the minimum
unfoldable pub middle_part : State → List ℕ
middle_part s =
    codes ",\"counted\":" ++ (printed (count_tree s.counted)
    ++ (codes ",\"entered\":" ++ (printed (count_tree s.entered)
    ++ (codes ",\"heard\":" ++ (printed (list_tree moment_tree s.heard)
    ++ (codes ",\"minima\":" ++ printed (list_tree change_tree s.scribe.minima)))))))

-- and those behind them, with the bracket
unfoldable pub last_part : State → List ℕ
last_part s =
    codes ",\"minimum\":" ++ (printed (count_tree s.sequencer.minimum)
    ++ (codes ",\"pending\":" ++ (printed (list_tree message_tree s.scribe.pending)
    ++ (codes ",\"sequence\":" ++ (printed (count_tree s.sequencer.sequence)
    ++ (codes ",\"version\":" ++ (printed (count_tree (version_number Two)) ++ codes "}")))))))
