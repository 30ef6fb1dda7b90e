use Rattle.tree_progress.proofs.Posting.{post_lowers}
use Rattle.tree_progress.proofs.law_post.Goals as goal

pub returns : goal.returns
returns c = post_lowers
