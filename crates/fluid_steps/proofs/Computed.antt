-- The worked examples, computed.
use Rattle.std.proofs.Common.{refl}
use Rattle.hex.specs.Hex.{decode_pairs}
use Rattle.json.specs.Json.{items, members, value}
use Rattle.json.specs.Lex.{lex, punctuate}
use Rattle.json.specs.Text.{content}
use Rattle.json.specs.Word.{after_number, word}
use Rattle.serde_json.specs.Read.{number_of}
use Rattle.fast_float.specs.Text.{scan}
use Rattle.fluid_json.specs.Spelled.{reaches, answer_within}
use Rattle.fluid_types.specs.Names.{is_name}
use Rattle.fluid_edits.specs.Forms.{edit_in}
use Rattle.fluid_tree.specs.Ids.{id_read}
use Rattle.fluid_words.specs.Numbers.{is_decimal}
use Rattle.fluid_steps.specs.Names.{is_script_name}
use Rattle.fluid_steps.specs.Examples.{OneOfEach, Blanks, Outside, Edits}

pub one_of_each : OneOfEach
unfolding is_name is_script_name is_decimal id_read decode_pairs
one_of_each = record {
  send = refl;
  collect = refl;
  close = refl;
  scribe = refl;
  checkpoint = refl;
  restart = refl;
  reopen = refl;
  sweep = refl;
  count = refl;
  tasks = refl;
  load = refl;
  latest = refl;
  handle = refl;
  pump = refl;
  beat = refl;
  summarize = refl;
  show = refl;
  roam = refl;
  lose = refl;
  back = refl;
  acked = refl;
}

pub blanks : Blanks
unfolding is_name is_script_name is_decimal
blanks = record { tab = refl; tab_in_text = refl; leading = refl; doubled = refl; trailing = refl; empty_text = refl; no_text = refl }

pub outside : Outside
unfolding is_name is_script_name is_decimal id_read
outside = record {
  unknown = refl;
  upper = refl;
  alone = refl;
  too_many = refl;
  zero_before = refl;
  signed = refl;
  beyond = refl;
  last = refl;
  no_name = refl;
  long_name = refl;
  no_document = refl;
  no_pick = refl;
  no_document_to_roam = refl;
}

pub edits : Edits
unfolding is_name is_script_name items members value lex punctuate content after_number word number_of scan reaches answer_within edit_in
edits = record { attach = refl; set = refl; delete = refl; clear = refl; increment = refl; say = refl; say_nothing = refl; not_json = refl; another_form = refl; text_of_an_op = refl; name_before_fault = refl }
