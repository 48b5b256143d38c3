-- What a session holds and answers. Assumes nothing.
--   State, state_of s   what the session s holds: the grammar of the pack that was taken last, the tokens of its line or phrase, the room of a replay
--   answer_of s t       what the step t prints where s is held
--   state_after s t     what is held after it
use Rattle.std.specs.Prelude.{ℕ, List, [], Some, None, Ok, Err, vec_items, Option, Result}
use Rattle.std.specs.Option.{option_map}
use Rattle.grammar.specs.Grammars.{GrammarModel}
use Rattle.grammar.specs.Model.{model}
use Rattle.grammar.specs.Stops.{Stop}
use Rattle.grammar.specs.Loads.{load_of}
use Rattle.line.specs.Runs.{Content, Keying, content_of, after, replied}
use Rattle.line.specs.declared.run.Call.{Call}
use Rattle.console.specs.declared.session.Session.{Session}
use Rattle.console.specs.declared.step.Step.{Step}
use Rattle.console.specs.declared.step.Step.TheVariants as step
use Rattle.replay.specs.Replays.{replay_of}
use Rattle.console.specs.Texts.{stop_text, pack_text, grammar_text, reply_text, room_text, played_text, no_pack}

pub record State : Type 0 where
  pub grammar : Option GrammarModel
  pub content : Content
  pub room : ℕ

abbrev pub state_of : Session → State
state_of s = record { grammar = option_map model s.grammar; content = content_of s.held; room = s.room }

-- a session begins with no pack, an empty line and room for 15 tokens
abbrev pub fresh : State
fresh = record { grammar = None; content = Keying []; room = 15 }

abbrev pub with_grammar : State → Option GrammarModel → State
with_grammar s g = record { grammar = g; content = s.content; room = s.room }

abbrev pub with_content : State → Content → State
with_content s k = record { grammar = s.grammar; content = k; room = s.room }

abbrev pub with_room : State → ℕ → State
with_room s n = record { grammar = s.grammar; content = s.content; room = n }

abbrev pub load_text : Result GrammarModel Stop → List ℕ
load_text (Ok m) = pack_text m
load_text (Err o) = stop_text o

-- a pack that is stopped leaves what was held
abbrev pub kept : Option GrammarModel → Result GrammarModel Stop → Option GrammarModel
kept h (Ok m) = Some m
kept h (Err o) = h

abbrev pub listing : Option GrammarModel → List ℕ
listing None = no_pack
listing (Some m) = grammar_text m

-- the phrase of a command list, or why it is not replayed
abbrev pub replaying : Option GrammarModel → List ℕ → ℕ → List ℕ
replaying None list room = no_pack
replaying (Some m) list room = played_text (replay_of m list room)

-- the answer to a call, which shows what is held after it
abbrev pub call_text : Content → Call → List ℕ
call_text k c = reply_text (replied k c) (after k c)

abbrev pub answer_of : State → Step → List ℕ
answer_of s step.Blank = []
answer_of s step.Comment = []
answer_of s (step.Pack v) = load_text (load_of (vec_items v))
answer_of s step.Grammar = listing s.grammar
answer_of s (step.Room n) = room_text n
answer_of s (step.Replay v) = replaying s.grammar (vec_items v) s.room
answer_of s (step.Call c) = call_text s.content c

abbrev pub state_after : State → Step → State
state_after s step.Blank = s
state_after s step.Comment = s
state_after s (step.Pack v) = with_grammar s (kept s.grammar (load_of (vec_items v)))
state_after s step.Grammar = s
state_after s (step.Room n) = with_room s n
state_after s (step.Replay v) = s
state_after s (step.Call c) = with_content s (after s.content c)
