-- Words that are refused: the texts that say so.
use Rattle.std.specs.Prelude.{ℕ, List, ◌++◌, codes}
use Rattle.hub_endings.specs.declared.ending.BadWords.{BadWords}
use Rattle.hub_endings.specs.declared.ending.BadWords.TheVariants.{NotText, Word, Name, NotName, Many, Duration, Restart, NoSocket}

-- what is wrong with the words
abbrev pub bad_text : BadWords → List ℕ
bad_text NotText = codes "an argument is not UTF-8"
bad_text NoSocket = codes "no socket: name one by --socket PATH or FTRIGHUB_SOCKET, or set XDG_RUNTIME_DIR"
bad_text Word = codes "a word has a line feed"
bad_text Name = codes "a name has a line feed"
bad_text NotName = codes "a name has 1 to 32 letters, digits, _, . or -"
bad_text Many = codes "too many names for one wait"
bad_text (Duration text) = codes "\"" ++ (text.bytes.items ++ codes "\" is no duration, such as 500ms, 0.5s, 90, 2m or 1h, up to 1000h")
bad_text Restart = codes "a wait for a restart takes 1000s at most"
