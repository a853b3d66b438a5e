use Rattle.std.proofs.Common.{◌≡◌, ◌+◌, List, ℕ, ◌++◌, length}
use Rattle.hub_front.specs.Pieces.{complete_pieces, piece_left}
use Rattle.hub_io.specs.Telling.{Rises}
use Rattle.hub_front.specs.Serving.{Served}
use Rattle.hub_front.proofs.session.Session.take_bytes.Given as goal

-- some lines were served, and the others are those of the bytes that are left
abbrev pub invariant-lines : goal.invariant-lines
invariant-lines g l =
    let kept = l.fn.self.line.items in
    let contents = g.W.Write.contents in
    (done : List (List ℕ)) × record {
      served : Served g.D.Desk.asks l.fn.desk done (contents l.fn.writer) (contents l.writer) l.desk;
      all : complete_pieces l.bytes kept ≡ done ++ complete_pieces l.left l.self.line.items;
      line : piece_left l.left l.self.line.items ≡ piece_left l.bytes kept;
      count : l.self.count ≡ l.fn.self.count + length done;
      quiet : Rises (g.W.Sink.faults l.fn.writer) (g.W.Sink.faults l.writer) 0;
    }

abbrev pub decreases-lines : goal.decreases-lines
decreases-lines g l = length l.left
