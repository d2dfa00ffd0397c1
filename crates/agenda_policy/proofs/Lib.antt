mod CommentLemmas
mod PolicyLemmas
