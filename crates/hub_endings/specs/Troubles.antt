-- What a hub that lives says of its fifodirs: lines of its log.
use Rattle.std.specs.Prelude.{ℕ, List, ◌++◌, codes}
use Rattle.std.specs.Fmt.{decimal}
use Rattle.hub_endings.specs.declared.trouble.Trouble.{Trouble}
use Rattle.hub_endings.specs.declared.trouble.Trouble.TheVariants.{Refused, Evicted, Will}

-- the text of a trouble of the fifodir with this name
abbrev pub trouble_text : (name : List ℕ) → Trouble → List ℕ
trouble_text name (Refused pending) = name ++ (codes ": a publisher was refused as full, the slowest subscription is " ++ (decimal pending ++ codes " events behind"))
trouble_text name (Evicted limit) = name ++ (codes ": a subscription was evicted, more than " ++ (decimal limit ++ codes " events behind"))
trouble_text name (Will pending) = name ++ (codes ": a will was not carried out, the slowest subscription is " ++ (decimal pending
    ++ (codes " events behind; end its client, then tell " ++ (name ++ codes " its state"))))
