-- What is in a buffer.
use Rattle.std.specs.Prelude.{ℕ, ◌-◌, List, take, drop}
use Rattle.hub_client.specs.declared.buffer.Buffer.{Buffer}

-- the bytes that were read and not passed on yet
abbrev pub pending : Buffer → List ℕ
pending buffer = take (buffer.end - buffer.start) (drop buffer.start buffer.bytes.items)
