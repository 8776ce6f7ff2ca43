use Rattle.jobs.proofs.Placed.{word_past}
use Rattle.jobs.proofs.job_words.WholeBlocks.word.Goals as goal

pub returns : goal.returns
returns c = word_past c.args.self.bytes.now c.args.k c.args.self.whole c.if-k-self.false
