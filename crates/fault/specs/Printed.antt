-- How a refusal is printed.
use Rattle.std.specs.Prelude.{ℕ, List, ◌++◌, codes, decimal}
use Rattle.fault.specs.declared.Fault.{Fault}
use Rattle.fault.specs.declared.Layer.{Layer}
use Rattle.fault.specs.declared.Layer.TheVariants.{File, Leg, Controller, Quantiser, Console}

abbrev pub layer_word : Layer → List ℕ
layer_word File = codes "file"
layer_word Leg = codes "leg"
layer_word Controller = codes "controller"
layer_word Quantiser = codes "quantiser"
layer_word Console = codes "console"

-- "no", the layer, the number and the place, parted by single spaces
abbrev pub refusal_line : Fault → List ℕ
refusal_line f = codes "no " ++ (layer_word f.layer ++ (codes " " ++ (decimal f.number ++ (codes " " ++ decimal f.place))))
