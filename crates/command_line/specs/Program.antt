-- The words of the program, as `clap` reads them (this profile).
use Rattle.std.specs.Prelude.{◌≡◌, true, ℕ, List, Option, Some, None, codes, pos}
use Rattle.std.specs.Str.Parse.{digits_value, without_leading_plus}
use Rattle.clap.specs.Words.{App, Row, Rule, Text, first_of, new_app, new_rule, one_of, subcommand_of, with_rule}
use Rattle.clap.specs.Words.{with_subcommand}
use Rattle.clap.specs.declared.builder.action.ArgAction.TheVariants.{Set}
use Rattle.clap.specs.declared.builder.value_parser.ValueParser.TheVariants.{Signed}
use Rattle.command_line.specs.declared.asked.Call.{Call}
use Rattle.command_line.specs.declared.asked.Call.TheVariants.{Check, CheckImage, Load, Run, Save, Stress}

-- the one argument of a command, the name of a script's file
abbrev pub script : Rule
script = record (new_rule (codes "script")) { required = true; action = Some Set }

-- a command of this name
abbrev pub of_script : Text → App
of_script name = with_rule (new_app name) script

abbrev pub named : App
named = new_app (codes "ufsim")

-- the program with the command `run` alone; without a command there is nothing to do
abbrev pub running : App
running =
    with_subcommand (record named { top = record named.top { subcommand_required = true } })
    (of_script (codes "run")).top

-- the commands that take a script
abbrev pub scripts : App
scripts = with_subcommand running (of_script (codes "check")).top

-- an argument that has no option's name
abbrev pub needed : Text → Rule
needed name = record (new_rule name) { required = true; action = Some Set }

-- the command `image`: what is done, the image's file and the script's
abbrev pub image : App
image =
    with_rule (with_rule (with_rule (new_app (codes "image")) (needed (codes "action"))) (needed (codes "image")))
    (needed (codes "script"))

-- the commands that take a script, and `image`
abbrev pub with_image : App
with_image = with_subcommand scripts image.top

-- an argument `--NAME N`, a whole number from 1 to 8
abbrev pub count : Text → Rule
count name = record (new_rule name) {
  long = Some name;
  required = true;
  action = Some Set;
  parser = Some (Signed (pos 1) (pos 8));
}

-- the command `stress`, with its two numbers
abbrev pub stress : App
stress = with_rule (with_rule (new_app (codes "stress")) (count (codes "dies"))) (count (codes "hosts"))

abbrev pub program : App
program = with_subcommand with_image stress.top

-- the rows of a command have this script
abbrev pub IsScriptIn : List Row → Text → Type 0
IsScriptIn rows file = first_of (codes "script") rows ≡ Some file

-- the rows of a command have under this name a text that spells this number
abbrev pub IsNumberIn : Text → List Row → ℕ → Type 0
IsNumberIn name rows n =
    (text : Text) × (one_of name rows ≡ Some text) × (digits_value 10 (without_leading_plus text) ≡ n)

-- the rows have an action, and the files of the call that it asks for
abbrev pub IsImageAsked : List Row → Call → Type 0
IsImageAsked rows (Save file script) =
    (first_of (codes "action") rows ≡ Some (codes "save")) × (first_of (codes "image") rows ≡ Some file.now)
    × IsScriptIn rows script.now
IsImageAsked rows (Load file script) =
    (first_of (codes "action") rows ≡ Some (codes "load")) × (first_of (codes "image") rows ≡ Some file.now)
    × IsScriptIn rows script.now
IsImageAsked rows (CheckImage file script) =
    (first_of (codes "action") rows ≡ Some (codes "check")) × (first_of (codes "image") rows ≡ Some file.now)
    × IsScriptIn rows script.now
IsImageAsked rows _ = ⊥

-- the command that is asked for, with its script or its numbers
abbrev pub IsCommand : Text → List Row → Call → Type 0
IsCommand name rows (Run file) = (name ≡ codes "run") × IsScriptIn rows file.now
IsCommand name rows (Check file) = (name ≡ codes "check") × IsScriptIn rows file.now
IsCommand name rows (Save file script) = (name ≡ codes "image") × IsImageAsked rows (Save file script)
IsCommand name rows (Load file script) = (name ≡ codes "image") × IsImageAsked rows (Load file script)
IsCommand name rows (CheckImage file script) = (name ≡ codes "image") × IsImageAsked rows (CheckImage file script)
IsCommand name rows (Stress dies hosts) =
    (name ≡ codes "stress") × IsNumberIn (codes "dies") rows dies × IsNumberIn (codes "hosts") rows hosts

-- the matches of a command ask for the call
abbrev pub IsAsked : Option (Text × List Row) → Call → Type 0
IsAsked None c = ⊥
IsAsked (Some matches) c = IsCommand matches.0 matches.1 c

-- and so do the words
abbrev pub IsAskedBy : List Text → Call → Type 0
IsAskedBy words c = IsAsked (subcommand_of program words) c
