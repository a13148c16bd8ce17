-- Worked examples: what some lines spell.
use Rattle.std.specs.Prelude.{◌≡◌, pos, [], ◌∷◌, Ok, Err, codes}
use Rattle.fluid_json.specs.Tree.{whole}
use Rattle.fluid_json.specs.declared.fault.JsonFault.TheVariants.{NotJson}
use Rattle.fluid_edits.specs.declared.edit.Edit.TheVariants.{Attach, Set, Delete, Clear, Increment}
use Rattle.fluid_edits.specs.declared.edit.ChannelKind.TheVariants.{Map}
use Rattle.fluid_steps.specs.declared.steps.Step.TheVariants.{Send, Collect, Close, Scribe, Checkpoint, Restart, Reopen, Sweep, Count, Tasks, Load, Pump, Edit, Beat, Summarize, Show, Roam, Say, Lose, Back, Acked}
use Rattle.fluid_loader.specs.declared.link.Pick.TheVariants as pick
use Rattle.fluid_steps.specs.declared.refusal.LineWhy.TheVariants.{UnknownStep, BadStep}
use Rattle.fluid_steps.specs.Grammar.{step_spelled}

-- one of each
pub record OneOfEach : Type 0 where
  pub send : step_spelled (codes "send c [\"dance\"] ") ≡ Ok (Send (codes "c") (codes "[\"dance\"] "))
  pub collect : step_spelled (codes "collect c") ≡ Ok (Collect (codes "c"))
  pub close : step_spelled (codes "close c2") ≡ Ok (Close (codes "c2"))
  pub scribe : step_spelled (codes "scribe d") ≡ Ok (Scribe (codes "d"))
  pub checkpoint : step_spelled (codes "checkpoint D_1") ≡ Ok (Checkpoint (codes "D_1"))
  pub restart : step_spelled (codes "restart d 10") ≡ Ok (Restart (codes "d") 10)
  pub reopen : step_spelled (codes "reopen d") ≡ Ok (Reopen (codes "d"))
  pub sweep : step_spelled (codes "sweep d 0") ≡ Ok (Sweep (codes "d") 0)
  pub count : step_spelled (codes "count d") ≡ Ok (Count (codes "d"))
  pub tasks : step_spelled (codes "tasks d") ≡ Ok (Tasks (codes "d"))
  pub load : step_spelled (codes "load p d none") ≡ Ok (Load (codes "p") (codes "d") pick.Empty)
  pub latest : step_spelled (codes "load p d latest") ≡ Ok (Load (codes "p") (codes "d") pick.Latest)
  pub handle :
      step_spelled (codes "load p d 4b825dc642cb6eb9a060e54bf8d69288fbee4904")
      ≡ Ok (Load (codes "p") (codes "d") (pick.Handle (75 ∷ 130 ∷ 93 ∷ 198 ∷ 66 ∷ 203 ∷ 110 ∷ 185 ∷ 160 ∷ 96 ∷ 229 ∷ 75 ∷ 248 ∷ 214 ∷ 146 ∷ 136 ∷ 251 ∷ 238 ∷ 73 ∷ 4 ∷ [])))
  pub pump : step_spelled (codes "pump p") ≡ Ok (Pump (codes "p"))
  pub beat : step_spelled (codes "beat p") ≡ Ok (Beat (codes "p"))
  pub summarize : step_spelled (codes "summarize p") ≡ Ok (Summarize (codes "p"))
  pub show : step_spelled (codes "show p") ≡ Ok (Show (codes "p"))
  pub roam : step_spelled (codes "roam r e") ≡ Ok (Roam (codes "r") (codes "e"))
  pub lose : step_spelled (codes "lose r") ≡ Ok (Lose (codes "r"))
  pub back : step_spelled (codes "back r") ≡ Ok (Back (codes "r"))
  pub acked : step_spelled (codes "acked r") ≡ Ok (Acked (codes "r"))

-- a blank is a space or a tab. A leading, a doubled and a trailing one make an empty word; what runs to the line's end may be empty
-- behind its blank
pub record Blanks : Type 0 where
  pub tab : step_spelled (codes "restart\td 1") ≡ Ok (Restart (codes "d") 1)
  pub tab_in_text : step_spelled (codes "send c\ta\tb c") ≡ Ok (Send (codes "c") (codes "a\tb c"))
  pub leading : step_spelled (codes " count d") ≡ Err UnknownStep
  pub doubled : step_spelled (codes "count  d") ≡ Err BadStep
  pub trailing : step_spelled (codes "count d ") ≡ Err BadStep
  pub empty_text : step_spelled (codes "send c ") ≡ Ok (Send (codes "c") [])
  pub no_text : step_spelled (codes "send c") ≡ Err BadStep

-- words that are outside their form
pub record Outside : Type 0 where
  pub unknown : step_spelled (codes "dance c") ≡ Err UnknownStep
  pub upper : step_spelled (codes "Count d") ≡ Err UnknownStep
  pub alone : step_spelled (codes "count") ≡ Err BadStep
  pub too_many : step_spelled (codes "restart d 1 2") ≡ Err BadStep
  pub zero_before : step_spelled (codes "restart d 01") ≡ Err BadStep
  pub signed : step_spelled (codes "restart d +1") ≡ Err BadStep
  pub beyond : step_spelled (codes "restart d 9007199254740992") ≡ Err BadStep
  pub last : step_spelled (codes "restart d 9007199254740991") ≡ Ok (Restart (codes "d") 9007199254740991)
  pub no_name : step_spelled (codes "pump P") ≡ Err BadStep
  pub long_name : step_spelled (codes "pump abcdefghijklmnopq") ≡ Err BadStep
  pub no_document : step_spelled (codes "count d.1") ≡ Err BadStep
  pub no_pick : step_spelled (codes "load p d last") ≡ Err BadStep
  pub no_document_to_roam : step_spelled (codes "roam r") ≡ Err BadStep

-- the edit of an op's contents, whatever their spelling; any whole amount has its form
pub record Edits : Type 0 where
  pub attach : step_spelled (codes "edit p {\"type\":\"attach\",\"address\":\"m\",\"kind\":\"map\"}") ≡ Ok (Edit (codes "p") (Ok (Attach (codes "m") Map)))
  pub set :
      step_spelled (codes "edit p {\"address\":\"m\", \"contents\":{\"key\":\"k\",\"type\":\"set\",\"value\":{\"type\":\"Plain\",\"value\":7}}}")
      ≡ Ok (Edit (codes "p") (Ok (Set (codes "m") (codes "k") (whole (pos 7)))))
  pub delete :
      step_spelled (codes "edit p {\"address\":\"m\",\"contents\":{\"key\":\"k\",\"type\":\"delete\"}}") ≡ Ok (Edit (codes "p") (Ok (Delete (codes "m") (codes "k"))))
  pub clear : step_spelled (codes "edit p {\"address\":\"m\",\"contents\":{\"type\":\"clear\"}}") ≡ Ok (Edit (codes "p") (Ok (Clear (codes "m"))))
  pub increment :
      step_spelled (codes "edit p {\"address\":\"n\",\"contents\":{\"incrementAmount\":9007199254740992,\"type\":\"increment\"}}")
      ≡ Ok (Edit (codes "p") (Ok (Increment (codes "n") (pos 9007199254740992))))
  pub say : step_spelled (codes "say r {\"address\":\"m\",\"contents\":{\"type\":\"clear\"}}") ≡ Ok (Say (codes "r") (Ok (Clear (codes "m"))))
  pub say_nothing : step_spelled (codes "say r {}") ≡ Err BadStep
  pub not_json : step_spelled (codes "edit p ") ≡ Ok (Edit (codes "p") (Err NotJson))
  pub another_form : step_spelled (codes "edit p {}") ≡ Err BadStep
  pub text_of_an_op : step_spelled (codes "edit p \"{}\"") ≡ Err BadStep
  pub name_before_fault : step_spelled (codes "edit P ") ≡ Err BadStep
