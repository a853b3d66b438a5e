use Rattle.std.proofs.Common.{◌≡◌, ◌+◌, List, ℕ, ◌++◌, length}
use Rattle.hub_front.specs.Pieces.{complete_pieces, piece_left}
use Rattle.hub_io.specs.Telling.{Rises}
use Rattle.hub_gather.specs.Passing.{Gathers, Works}
use Rattle.hub_gather.proofs.batch.Batch.answer_lines.Given as goal

-- some lines were answered, and the others are those of the bytes that are left
abbrev pub invariant-lines : goal.invariant-lines
invariant-lines g l =
    let kept = l.fn.self.line.items in
    let contents = g.M.Means.contents in
    (done : List (List ℕ)) × record {
      gathers : Gathers g.M.Means.asks l.fn.desk done l.fn.self.held.items (contents l.fn.writer) (contents l.writer) l.self.held.items l.desk;
      all : complete_pieces l.bytes kept ≡ done ++ complete_pieces l.left l.self.line.items;
      line : piece_left l.left l.self.line.items ≡ piece_left l.bytes kept;
      count : l.self.count ≡ l.fn.self.count + length done;
      quiet : Rises (g.M.Means.failed_writes l.fn.writer) (g.M.Means.failed_writes l.writer) 0;
      paces : Works (g.M.Means.history l.fn.means) (g.M.Means.history l.means) l.fn.self.count l.fn.self.held.items l.self.count l.self.held.items;
    }

abbrev pub decreases-lines : goal.decreases-lines
decreases-lines g l = length l.left
