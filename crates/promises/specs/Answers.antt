-- The code's answers lose nothing of what they say.
use Rattle.laws.specs.Answers.{says_same, run_says_same}
use Rattle.promises.specs.Promises.{Lossless}

pub lossless : Lossless
lossless = record { reading = says_same; checking = says_same; inferring = says_same; running = run_says_same }
