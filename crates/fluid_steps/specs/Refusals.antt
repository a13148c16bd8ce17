-- Why a line is refused, in words.
use Rattle.std.specs.Prelude.{ℕ, List, codes}
use Rattle.fluid_json.specs.declared.fault.JsonFault.{JsonFault}
use Rattle.fluid_json.specs.declared.fault.JsonFault.TheVariants as json
use Rattle.fluid_types.specs.Texts.{fault_text}
use Rattle.fluid_types.specs.declared.fault.CodecFault.{CodecFault}
use Rattle.fluid_types.specs.declared.fault.CodecFault.TheVariants as codec
use Rattle.fluid_steps.specs.declared.refusal.LineWhy.{LineWhy}
use Rattle.fluid_steps.specs.declared.refusal.LineWhy.TheVariants.{UnknownStep, BadStep, NameInUse, UnknownName, Json, TooLong, NotUtf8, TooMany}

-- the words of a fault of JSON, which are those of the same fault of a record
abbrev pub fault_of : JsonFault → CodecFault
fault_of json.NotJson = codec.NotJson
fault_of json.NotWhole = codec.NotWhole
fault_of json.TooDeep = codec.TooDeep
fault_of json.NoMemory = codec.NoMemory

abbrev pub fault_words : JsonFault → List ℕ
fault_words fault = fault_text (fault_of fault)

unfoldable pub why_text : LineWhy → List ℕ
why_text UnknownStep = codes "unknown step"
why_text BadStep = codes "bad step"
why_text NameInUse = codes "name in use"
why_text UnknownName = codes "unknown name"
why_text (Json fault) = fault_words fault
why_text TooLong = codes "too long"
why_text NotUtf8 = codes "not UTF-8"
why_text TooMany = codes "too many lines"
