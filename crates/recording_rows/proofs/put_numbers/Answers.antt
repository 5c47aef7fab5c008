-- `recording_rows::put_numbers` meets its contract: the numbers, from the front on. Assumes nothing.
use Rattle.recording_rows.proofs.put_numbers.Goals as goal

pub returns : goal.returns
returns c = c.put_whole.ensures.content
