-- What the console prints, as bytes. Assumes nothing.
--   listed f i xs    the texts f i x, f (i + 1) y, .. of the entries x, y, .. of xs, one after another
--   stop_text o      a pack's stop
--   pack_text m      a pack that was taken
--   grammar_text m   the listing of a grammar
--   content_text k   the tokens of a line or a phrase
--   reply_text       the answer to a call on one
--   played_text o    the outcome of a replay
--   fault_text f     why a line asks for nothing
use Rattle.std.specs.Prelude.{ℕ, ◌+◌, cond, List, [], ◌∷◌, ◌++◌, length, Ok, Err, codes, decimal, Result, ◌==◌}
use Rattle.grammar.specs.Grammars.{ProductionModel, GrammarModel}
use Rattle.grammar.specs.declared.symbol.Symbol.{Symbol}
use Rattle.grammar.specs.Printed.{layer_text, symbol_text as printed}
use Rattle.grammar.specs.Stops.{Stop}
use Rattle.line.specs.Stops as line
use Rattle.replay.specs.Stops as replay
use Rattle.console.specs.declared.step.Fault.{Fault}
use Rattle.console.specs.declared.step.Fault.TheVariants as fault
use Rattle.line.specs.Runs.{Content, Keying, Keyed, Reply, Made, WhileSealed, WhileOpen}

abbrev pub listed : {X : Type 0} → (ℕ → X → List ℕ) → ℕ → List X → List ℕ
listed f i [] = []
listed f i (x ∷ xs) = f i x ++ listed f (i + 1) xs

abbrev pub stop_text : Stop → List ℕ
stop_text o =
    codes "stop " ++ (decimal o.number ++ (codes " figure " ++ (decimal o.figure ++ (codes " layer " ++ (layer_text o.layer ++ codes "\n")))))

abbrev pub counts_text : ℕ → ℕ → ℕ → ℕ → List ℕ
counts_text kind categories start productions =
    codes "pack kind " ++ (decimal kind ++ (codes " categories " ++ (decimal categories ++ (codes " start " ++ (decimal start
    ++ (codes " productions " ++ (decimal productions ++ codes "\n")))))))

abbrev pub pack_text : GrammarModel → List ℕ
pack_text m = counts_text m.kind (length m.dimensions) m.start (length m.productions)

abbrev pub category_text : ℕ → ℕ → List ℕ
category_text i d = codes "category " ++ (decimal i ++ (codes " dimension " ++ (decimal d ++ codes "\n")))

-- one space between the arguments
abbrev pub argument_text : ℕ → ℕ → List ℕ
argument_text i a = cond (i == 0) [] (codes " ") ++ decimal a

-- a space before each symbol
abbrev pub symbol_text : ℕ → Symbol → List ℕ
symbol_text i s = codes " " ++ printed s

-- a stroke between the constituents
abbrev pub constituent_text : ℕ → List Symbol → List ℕ
constituent_text i c = cond (i == 0) [] (codes " /") ++ listed symbol_text 0 c

abbrev pub head_text : ℕ → ℕ → ℕ → List ℕ
head_text i category weight =
    codes "production " ++ (decimal i ++ (codes ": " ++ (decimal category ++ (codes " <- " ++ (decimal weight ++ codes " [")))))

abbrev pub production_text : ℕ → ProductionModel → List ℕ
production_text i p =
    head_text i p.category p.weight ++ (listed argument_text 0 p.arguments ++ (codes "]" ++ (listed constituent_text 0 p.constituents ++ codes "\n")))

abbrev pub kind_text : ℕ → List ℕ
kind_text kind = codes "kind " ++ (decimal kind ++ codes "\n")

abbrev pub start_text : ℕ → List ℕ
start_text start = codes "start " ++ (decimal start ++ codes "\n")

abbrev pub grammar_text : GrammarModel → List ℕ
grammar_text m =
    kind_text m.kind ++ (listed category_text 0 m.dimensions ++ (start_text m.start ++ listed production_text 0 m.productions))

abbrev pub token_text : ℕ → ℕ → List ℕ
token_text i t = codes " " ++ decimal t

-- a word, and the tokens behind it
abbrev pub tokens_text : List ℕ → List ℕ → List ℕ
tokens_text word ts = word ++ (listed token_text 0 ts ++ codes "\n")

abbrev pub content_text : Content → List ℕ
content_text (Keying ts) = tokens_text (codes "line") ts
content_text (Keyed ts) = tokens_text (codes "phrase") ts

abbrev pub figure_text : ℕ → ℕ → List ℕ
figure_text number figure = codes "stop " ++ (decimal number ++ (codes " figure " ++ (decimal figure ++ codes "\n")))

-- a call that is done shows what is then held
abbrev pub told_text : line.Told → Content → List ℕ
told_text line.Done k = content_text k
told_text (line.Stop number figure) k = figure_text number figure

abbrev pub reply_text : Reply → Content → List ℕ
reply_text (Made t) k = told_text t k
reply_text WhileSealed k = codes "refused: the line is sealed\n"
reply_text WhileOpen k = codes "refused: the line is not sealed\n"

abbrev pub room_text : ℕ → List ℕ
room_text room = codes "room " ++ (decimal room ++ codes "\n")

abbrev pub played_text : Result (List ℕ) replay.Stop → List ℕ
played_text (Ok phrase) = tokens_text (codes "phrase") phrase
played_text (Err o) = figure_text o.number o.figure

abbrev pub no_pack : List ℕ
no_pack = codes "refused: no pack is loaded\n"

abbrev pub fault_text : Fault → List ℕ
fault_text fault.UnknownCommand = codes "no such command"
fault_text fault.NoBytes = codes "the operands are bytes, two lowercase hexadecimal digits each, with one space between them"
fault_text (fault.NoNumber n) = codes "the operand is a number from 0 to " ++ decimal n
