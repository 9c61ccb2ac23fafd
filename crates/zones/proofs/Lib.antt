pub mod TextCalls
